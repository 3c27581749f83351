use Rattle.std.proofs.Common.{Ok, Err, ap, ◌∙◌, subst}
use Rattle.std.proofs.lemmas.Result.{on_ok_weaker}
use Rattle.locks.specs.declared.together.Side.TheVariants.{Left, Right}
use Rattle.readers.specs.Place.{commands_in}
use Rattle.readers.specs.Saying.{ListingSays}
use Rattle.task.specs.Places.{task_of}
use Rattle.transcript.proofs.TaskLaws.{left_refused, right_refused, both_read, thread_told, tried, played_by}
use Rattle.transcript.proofs.threads.write_task.Goals as goal

pub returns-in-Err : goal.returns-in-Err
returns-in-Err c =
    let t = task_of c.args.task.now in
    let says : ListingSays t.left (Err c.in-Err.fault) = subst (λ bs. ListingSays bs (Err c.in-Err.fault)) c.left.ensures.value c.in-Err.ensures.reads.says in
    on_ok_weaker c.write_refused.result (λ line. left_refused t _ _ c.in-Err.fault says line) c.write_refused.ensures

pub returns-in-Err-read : goal.returns-in-Err-read
returns-in-Err-read c =
    let t = task_of c.args.task.now in
    let lefts = commands_in c.read.new.self in
    let fault = c.in-Err-read.fault in
    let left_says : ListingSays t.left (Ok lefts) = subst (λ bs. ListingSays bs (Ok lefts)) c.left.ensures.value c.in_default.ensures.reads.says in
    let right_says : ListingSays t.right (Err fault) = subst (λ bs. ListingSays bs (Err fault)) c.right.ensures.value c.in-Err-read.ensures.reads.says in
    let left_line = thread_told Left _ _ _ _ c.in_ok-left-2.ensures.line in
    on_ok_weaker c.write_refused-in-Err-read.result (λ line. right_refused t _ _ lefts left_says _ left_line fault right_says line) c.write_refused-in-Err-read.ensures

pub write_played-requires-clause-left : goal.write_played-requires-clause-left
write_played-requires-clause-left c =
    tried Left _ _ _ _ _ _ (ap (λ x. x.left) c.new-3.ensures ∙ c.in_ok-left-2.ensures.graph) (ap (λ x. x.lefts) c.new-3.ensures) c.in_ok-left-2.ensures.line

pub write_played-requires-clause-right : goal.write_played-requires-clause-right
write_played-requires-clause-right c =
    tried Right _ _ _ _ _ _ (ap (λ x. x.right) c.new-3.ensures ∙ c.in_ok-right-2.ensures.graph) (ap (λ x. x.rights) c.new-3.ensures) c.in_ok-right-2.ensures.line

pub returns : goal.returns
returns c =
    let t = task_of c.args.task.now in
    let lefts = commands_in c.read.new.self in
    let rights = commands_in c.read-2.new.self in
    let left_says : ListingSays t.left (Ok lefts) = subst (λ bs. ListingSays bs (Ok lefts)) c.left.ensures.value c.in_default.ensures.reads.says in
    let right_says : ListingSays t.right (Ok rights) = subst (λ bs. ListingSays bs (Ok rights)) c.right.ensures.value c.in_default-read.ensures.reads.says in
    let left_line = thread_told Left _ _ _ _ c.in_ok-left-2.ensures.line in
    let right_line = thread_told Right _ _ _ _ c.in_ok-right-2.ensures.line in
    on_ok_weaker c.write_played.result
    (λ rest. both_read t _ _ lefts left_says _ left_line rights _ right_says right_line
    (played_by _ _ _ _ t _ _ (ap (λ x. x.left) c.new-3.ensures ∙ c.in_ok-left-2.ensures.graph) (ap (λ x. x.right) c.new-3.ensures ∙ c.in_ok-right-2.ensures.graph) rest))
    c.write_played.ensures
