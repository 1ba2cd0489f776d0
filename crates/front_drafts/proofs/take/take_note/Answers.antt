-- A name that is set stands behind the others, and an exit takes the next number.
use Rattle.std.proofs.Common.{◌≡◌, ℕ, ◌∷◌, [], Option, Some, None, SomeIff, sym, ap, ◌∙◌, arith}
use Rattle.std.specs.Result.{result_ok}
use Rattle.front_profile.specs.bridge.Growing.{tables_grow_reflexive, grows_by, grows_with, nothing_added}
use Rattle.front_drafts.proofs.take.take_note.Goals as goal

pub returns-in-Nothing-clause-grows : goal.returns-in-Nothing-clause-grows
returns-in-Nothing-clause-grows c = tables_grow_reflexive _

pub returns-in_err-push-in-Set-clause-grows : goal.returns-in_err-push-in-Set-clause-grows
returns-in_err-push-in-Set-clause-grows c = rw c.in_err-push-in-Set.ensures.err (tables_grow_reflexive c.args.tables.now)

pub returns-in_ok-push-in-Set-clause-grows : goal.returns-in_ok-push-in-Set-clause-grows
returns-in_ok-push-in-Set-clause-grows c =
    rw c.in_ok-push-in-Set.ensures.ok
    (grows_by c.args.tables.now c.args.tables.now (record nothing_added { set = Some (_ ∷ []) }) (tables_grow_reflexive c.args.tables.now))

pub returns-in_err-tables-in-Exit-clause-grows : goal.returns-in_err-tables-in-Exit-clause-grows
returns-in_err-tables-in-Exit-clause-grows c = tables_grow_reflexive _

next_is : (found : Option ℕ) (P : Type 0) (m n : ℕ) → SomeIff found P m → found ≡ Some n → n ≡ m
next_is None P m n h e = absurd (cc)
next_is (Some k) P m n h e = let same : k ≡ n = cc in sym same ∙ h.1

pub returns-in_ok-tables-in-Exit-clause-grows : goal.returns-in_ok-tables-in-Exit-clause-grows
returns-in_ok-tables-in-Exit-clause-grows c =
    let found : c.checked_add.result ≡ Some c.in_ok-tables-in-Exit.field-0 = c.ok_or.ensures.ok_part ∙ ap result_ok c.in_ok-tables-in-Exit.was in
    let next = next_is _ _ _ _ c.checked_add.ensures found in
    grows_with c.args.tables.now c.args.tables.now nothing_added c.args.tables.now.variables _ (omega arith) (omega (arith, next)) (tables_grow_reflexive c.args.tables.now)
