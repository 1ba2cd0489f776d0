-- What is left is a program as the program was; it keeps what is reached, and has no more nodes.
use Rattle.std.proofs.Common.{◌≡◌, ◌≤◌, ◌∙◌, sym, true, subst}
use Rattle.lang_meaning.specs.declared.program.ProgramRows.{ProgramRows}
use Rattle.lang_meaning.specs.Facts.{is_whole}
use Rattle.lang_meaning.specs.ProgramCounts.{program_nodes}
use Rattle.lang_reached.specs.declared.kept.Kept.{Kept}
use Rattle.lang_reached.specs.LeftOut.{without_others}
use Rattle.lang_reached.specs.Remaining.{KeepsReached}
use Rattle.lang_reached.proofs.Remaining.{keeps_reached}
use Rattle.lang_reached.proofs.Whole.{nodes_left}
use Rattle.lang_reached.proofs.leaving.keep_reached.Goals as goal

pub new-requires : goal.new-requires
new-requires c =
    let rows = c.rows-rows.result.now in
    let whole : is_whole rows ≡ true = subst (λ r. is_whole r ≡ true) (sym c.rows-rows.ensures.same) c.rows-rows.ensures.whole in
    subst (λ r. is_whole r ≡ true) (sym c.in_ok-left.ensures) (c.law_whole.ensures rows c.in_ok-kept.kept whole)

-- what is said of the rows and of what is left of them, of the program and its own
told : (Says : ProgramRows → ProgramRows → Type 0) (rows program made left : ProgramRows) (kept : Kept) → rows ≡ program → made ≡ left
    → left ≡ without_others kept rows → Says rows (without_others kept rows) → Says program made
told Says rows program made left kept same is left_is h =
    subst (λ (r : ProgramRows). Says r made) same (subst (λ (l : ProgramRows). Says rows l) (sym (is ∙ left_is)) h)

pub returns-clause-left : goal.returns-clause-left
returns-clause-left c =
    told (λ rows left. KeepsReached c.args.names.now rows left) c.rows-rows.result.now c.args.program.now c.new.result c.in_ok-left.field-0 c.in_ok-kept.kept
    c.rows-rows.ensures.same c.new.ensures c.in_ok-left.ensures
    (keeps_reached c.args.names.now c.rows-rows.result.now c.in_ok-kept.kept c.in_ok-kept.ensures.closed c.in_ok-kept.ensures.reached)

pub returns-clause-nodes : goal.returns-clause-nodes
returns-clause-nodes c =
    told (λ rows left. program_nodes left ≤ program_nodes rows) c.rows-rows.result.now c.args.program.now c.new.result c.in_ok-left.field-0 c.in_ok-kept.kept
    c.rows-rows.ensures.same c.new.ensures c.in_ok-left.ensures (nodes_left c.rows-rows.result.now c.in_ok-kept.kept)
