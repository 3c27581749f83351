use Rattle.review.proofs.file.words.put_names.Goals as goal

pub returns : goal.returns
returns c = c.put_number.ensures c.args.space.now _ c.put_between-end.ensures
