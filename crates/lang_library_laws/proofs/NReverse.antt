-- `nreverse`, by the loop that turns the conses of a list.
use Rattle.std.proofs.Common.{◌≡◌, ℕ, suc, ◌+◌, List, [], ◌∷◌, refl, sym, ap, subst, ◌∙◌, Option, Some, None, length, reverse, slice_get, append-nil, arith}
use Rattle.base.specs.Data as datum
use Rattle.base.specs.declared.datum.Name.{Name}
use Rattle.lang_meaning.specs.declared.program.ProgramRows.{ProgramRows}
use Rattle.lang_meaning.specs.Form.{literal, local, call, sequence}
use Rattle.lang_meaning.specs.Values.{Value, nil}
use Rattle.lang_meaning.specs.Objects.{Object}
use Rattle.lang_meaning.specs.State.{State, DynamicContext, Limit}
use Rattle.lang_meaning.specs.Signals.{Signals, apply_procedure}
use Rattle.lang_library_laws.specs.Lists.{IsListFrom, HasConses, AreFrom, ChangesOnly}
use Rattle.lang_library_laws.specs.Applications.{IsExtended, GivesKeeping, at_level, HasLiteral, IsNamed}
use Rattle.lang_library_laws.specs.ListBodies.{one, two, turn_onto, nreverse_function}
use Rattle.lang_library_laws.specs.Laws.{LawOfNreverse}
use Rattle.lang_library_laws.proofs.Frames.{nothing_added, at_store}
use Rattle.lang_library_laws.proofs.Evaluates.{comes_local, comes_literal, comes_sequence, then_nothing, first_then, no_arguments_left, argument_and}
use Rattle.lang_library_laws.proofs.Applies.{keeps_more, applies, called, comes_call}
use Rattle.lang_library_laws.proofs.Falling.{turned_onto, turned_is_reverse, IsFalling}
use Rattle.lang_library_laws.proofs.Conses.{Conses, items_in, items_length, items_turned, conses_list, from_turned, AreBeyond, AreApart, conses_falling, conses_apart}
use Rattle.lang_library_laws.proofs.TurnOnto.{turn_gives}
use Rattle.lang_library_laws.proofs.ListsKept.{here}

module _ (names : List (List ℕ)) (program : ProgramRows) (limit : Limit) (z : State) (name name' : Option Name) (v v' turn no_items number : ℕ)
    (named : IsNamed names program turn (turn_onto name' v')) (constant : HasLiteral program no_items datum.nil)
    (there : slice_get program.procedures number ≡ Some (nreverse_function name v turn no_items))
    (before : List Object) (is : z.store ≡ before) (kept : List Object) (e : IsExtended Object kept before) where
  pub nreverse_gives : (cs : Conses) (list : Value) → HasConses before list cs → AreApart cs [] → AreFrom (length kept) cs
      → (k : ℕ) (wrong : Signals) (around : DynamicContext)
      → GivesKeeping kept limit k (suc (suc (length cs))) z (λ w store. HasConses store w (turned_onto cs []) × ChangesOnly cs before store)
      (apply_procedure (at_level names program limit k) wrong number None (list ∷ []) around z)
  nreverse_gives cs list l a f k wrong around =
      let IsTurned : Value → List Object → Type 0 = λ w store. HasConses store w (turned_onto cs []) × ChangesOnly cs before store in
      applies names program limit z kept (suc (length cs)) number name (v ∷ []) (sequence (one (call turn (two (local v) (literal no_items)))))
      (list ∷ []) IsTurned (subst (λ os. IsExtended Object kept os) (sym is) e) there (λ u. refl) refl
      (λ levels. at_store is
      (comes_sequence (first_then (comes_call (argument_and (comes_local v 0 (here v 0 []) (argument_and
      (comes_literal no_items (datum.item constant.0 datum.nil) nil constant.1 refl (no_arguments_left
      (called IsTurned (suc (length cs)) (λ g. omega (arith, g)) kept (nothing_added kept) (λ w more now e g. then_nothing g)
      turn (turn_onto name' v') named (list ∷ nil ∷ []) (λ now h wrong around.
      turn_gives names program limit now name' v' named.number named.there before h.objects_are cs [] list nil l refl a kept e f levels wrong around)))))))))))
      k wrong around

  -- of a list of new conses it is a list of new conses
  pub nreverse_new_gives : (above : ℕ) (items : List Value) (list : Value) → IsFalling (length kept) above before list items
      → (k : ℕ) (wrong : Signals) (around : DynamicContext)
      → GivesKeeping kept limit k (suc (suc (length items))) z (λ w store. IsListFrom (length kept) store w (turned_onto items []))
      (apply_procedure (at_level names program limit k) wrong number None (list ∷ []) around z)
  nreverse_new_gives above items list l k wrong around =
      let cs : (cs : Conses) × (items_in cs ≡ items) × HasConses before list cs × AreFrom (length kept) cs × ((ds : Conses) → AreBeyond (length kept) above ds → AreApart cs ds) =
      conses_falling before (length kept) above list items l in
      let size : length cs.0 ≡ length items = sym (items_length cs.0) ∙ ap length cs.1 in
      let all : items_in (turned_onto cs.0 []) ≡ turned_onto items [] = items_turned cs.0 [] ∙ ap (λ us. turned_onto us []) cs.1 in
      keeps_more kept limit k (suc (suc (length items))) z (λ w store. HasConses store w (turned_onto cs.0 []) × ChangesOnly cs.0 before store)
      (λ w store. IsListFrom (length kept) store w (turned_onto items [])) (apply_procedure (at_level names program limit k) wrong number None (list ∷ []) around z)
      (subst (λ n. GivesKeeping kept limit k (suc (suc n)) z (λ w store. HasConses store w (turned_onto cs.0 []) × ChangesOnly cs.0 before store)
      (apply_procedure (at_level names program limit k) wrong number None (list ∷ []) around z)) size
      (nreverse_gives cs.0 list cs.2 (cs.4 [] tt) cs.3 k wrong around))
      (λ w store h. subst (λ us. IsListFrom (length kept) store w us) all
      (conses_list store (length kept) w (turned_onto cs.0 []) (from_turned (length kept) cs.0 [] cs.3 tt) h.0))

pub law_of_nreverse : LawOfNreverse
law_of_nreverse names program name name' v v' turn no_items number named constant there limit k wrong around z list cs l kept e f =
    let enough : suc (suc (length cs)) ≡ length cs + 2 = omega arith in
    let all : turned_onto cs [] ≡ reverse cs = turned_is_reverse cs [] ∙ append-nil (reverse cs) in
    subst (λ n. GivesKeeping kept limit k n z (λ w store. HasConses store w (reverse cs) × ChangesOnly cs z.store store)
    (apply_procedure (at_level names program limit k) wrong number None (list ∷ []) around z)) enough
    (subst (λ ds. GivesKeeping kept limit k (suc (suc (length cs))) z (λ w store. HasConses store w ds × ChangesOnly cs z.store store)
    (apply_procedure (at_level names program limit k) wrong number None (list ∷ []) around z)) all
    (nreverse_gives names program limit z name name' v v' turn no_items number named constant there z.store refl kept e
    cs list l (conses_apart z.store list cs l) f k wrong around))
