-- Bytes that are not refused are few enough commands, and well formed.
use Rattle.std.proofs.Common.{sym, ap, ◌∙◌, arith}
use Rattle.std.proofs.lemmas.Result.{err_from_is_err_and}
use Rattle.readers.specs.Flow.{is_well_formed}
use Rattle.readers.proofs.Accepted.{few_commands, accepted_sound}
use Rattle.readers.proofs.Saying.{read_accepted, read_refused}
use Rattle.readers.proofs.listing.place.Listing.read.Goals as goal

pub fill-requires : goal.fill-requires
fill-requires c = omega (arith, few_commands c.args.bytes.now (sym c.in_ok-check.ensures), c.args.self.now.room)

pub invariant_of-self : goal.invariant_of-self
invariant_of-self c = record {
  room = omega (arith, c.fill.ensures.capacity, c.args.self.now.room);
  sound = ap is_well_formed c.fill.ensures.items ∙ accepted_sound c.args.bytes.now (sym c.in_ok-check.ensures);
}

pub returns-clause-reads : goal.returns-clause-reads
returns-clause-reads c = read_accepted _ c.type_inv.bytes _ _ c.in_ok-check.ensures c.fill.ensures.items

pub returns-in_err-check-clause-reads : goal.returns-in_err-check-clause-reads
returns-in_err-check-clause-reads c =
    let p = err_from_is_err_and c.from_residual.result c.from_residual.ensures.1 in
    rw (p.1, p.2) (read_refused _ c.type_inv.bytes _ _ c.in_err-check.ensures)
