-- What a datum makes is what its parts make, and then the datum.
use Rattle.std.proofs.Common.{◌≤◌, length, subst, arith}
use Rattle.std.specs.Prelude.{IfOk}
use Rattle.std.proofs.lemmas.Result.{IfOk-weaker}
use Rattle.base.specs.model.DataView.{tail_of}
use Rattle.lang_meaning.specs.Literals.{lay}
use Rattle.eval_store.specs.Words.{value_of_word}
use Rattle.eval_store.specs.Recipes.{IsMadeBy}
use Rattle.lang_meaning.specs.Recipes.{laid}
use Rattle.eval_store.proofs.Turns.{one_made_at, all_made_at}
use Rattle.eval_store.proofs.Data.{text_made, vector_made, list_made}
use Rattle.eval_store.proofs.datum.+lay.Goals as goal

pub lay_datum-returns : goal.lay_datum-returns
lay_datum-returns t c =
    subst (λ d. IfOk c.lay_kind.result (λ w. IsMadeBy value_of_word (λ names. laid (lay names d)) c.args.store.now c.lay_kind.new.store w)) c.datum.view_is c.lay_kind.ensures

pub lay_items-loop-at-preserved : goal.lay_items-loop-at-preserved
lay_items-loop-at-preserved t c = one_made_at c.loop-at.at c.in-Some.ensures c.in_ok-push.ensures.ok c.loop-at.invariant c.in_ok-word.ensures

pub lay_items-returns : goal.lay_items-returns
lay_items-returns t c =
    let past : length c.args.items.now ≤ c.loop-at.at = omega (arith, c.len-at-end.ensures) in
    all_made_at c.loop-at.at past c.loop-at.invariant

pub lay_kind-returns-in-Str : goal.lay_kind-returns-in-Str
lay_kind-returns-in-Str t c = rw c.in-Str.is (IfOk-weaker c.lay_text.result _ _ (λ w h. text_made c.in-Str.bytes h) c.lay_text.ensures)

pub lay_kind-returns-in-Vector : goal.lay_kind-returns-in-Vector
lay_kind-returns-in-Vector t c = rw c.in-Vector.is c.lay_vector.ensures

pub lay_kind-returns-in-List : goal.lay_kind-returns-in-List
lay_kind-returns-in-List t c = rw c.in-List.is c.lay_list.ensures

pub lay_list-returns : goal.lay_list-returns
lay_list-returns t c =
    IfOk-weaker c.add_list.result _ _ (λ w h. list_made c.args.items.now (tail_of c.args.tail.now) c.in_ok-words.ensures c.in_ok-end.ensures h) c.add_list.ensures

pub lay_tail-returns-in-Some : goal.lay_tail-returns-in-Some
lay_tail-returns-in-Some t c =
    rw c.in-Some.is (subst (λ d. IfOk c.lay_datum.result (λ w. IsMadeBy value_of_word (λ names. laid (lay names d)) c.args.store.now c.lay_datum.new.store w)) c.deref.ensures c.lay_datum.ensures)

pub lay_vector-returns : goal.lay_vector-returns
lay_vector-returns t c = IfOk-weaker c.add_object.result _ _ (λ w h. vector_made c.args.items.now c.in_ok-words.ensures h) c.add_object.ensures
