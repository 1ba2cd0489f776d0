-- `member`, by the loop that seeks.
use Rattle.std.proofs.Common.{◌≡◌, ℕ, suc, ◌+◌, Bool, true, false, List, [], ◌∷◌, map, refl, sym, ap, subst, Option, Some, None, length, slice_get, arith, if◌then◌else◌}
use Rattle.base.specs.declared.datum.Name.{Name}
use Rattle.lang_meaning.specs.declared.program.ProgramRows.{ProgramRows}
use Rattle.lang_meaning.specs.Form.{local, call, sequence}
use Rattle.lang_meaning.specs.Values.{Value, same}
use Rattle.lang_meaning.specs.Objects.{Object}
use Rattle.lang_meaning.specs.State.{State, DynamicContext, Limit}
use Rattle.lang_meaning.specs.Signals.{Signals, apply_procedure}
use Rattle.lang_library_laws.specs.Lists.{IsProperList, IsBehind, from_item}
use Rattle.lang_library_laws.specs.Applications.{GivesKeeping, IsExtended, Gives, at_level, HasTruth}
use Rattle.lang_library_laws.specs.ListBodies.{one, two, seek, item_key, memv}
use Rattle.lang_library_laws.specs.Laws.{LawOfMember}
use Rattle.lang_library_laws.proofs.Frames.{nothing_added, same_objects, Setting, Comes, a_form, weaker, at_frame}
use Rattle.lang_library_laws.proofs.Evaluates.{comes_local, comes_sequence, then_nothing, first_then, no_arguments_left, argument_and}
use Rattle.lang_library_laws.proofs.OfPrimitives.{comes_car}
use Rattle.lang_library_laws.proofs.Applies.{setting, applies, called, comes_call}
use Rattle.lang_library_laws.proofs.ListsKept.{cell_of}
use Rattle.lang_library_laws.proofs.Seek.{items_of, from_key, seek_places, at_object, at_list, Keyed, seeks}

-- an item is its own key
abbrev IsItself : List Object → Value → Value → Type 0
IsItself store x y = x ≡ y

abbrev with_themselves : List Value → List (Value × Value)
with_themselves items = map (λ x. (x, x)) items

items_themselves : (items : List Value) → items_of (with_themselves items) ≡ items
items_themselves [] = refl
items_themselves (x ∷ xs) = ap (λ us. x ∷ us) (items_themselves xs)

found_themselves : (sought : Value) (items : List Value) → items_of (from_key sought (with_themselves items)) ≡ from_item sought items
found_themselves sought [] = refl
found_themselves sought (x ∷ xs) = by (same sought x) (found_themselves sought xs)
  where
    by : (b : Bool) → items_of (from_key sought (with_themselves xs)) ≡ from_item sought xs
        → items_of (if b then (x, x) ∷ with_themselves xs else from_key sought (with_themselves xs)) ≡ (if b then x ∷ xs else from_item sought xs)
    by true others = ap (λ us. x ∷ us) (items_themselves xs)
    by false others = others

themselves_length : (items : List Value) → length (with_themselves items) ≡ length items
themselves_length [] = refl
themselves_length (x ∷ xs) = ap suc (themselves_length xs)

item_key_comes : (s : Setting) (v : ℕ) (sought : Value) (k : ℕ) (Q : Value → List Value → List Object → Type 0) (x y : Value) (xs : List Value)
    (list : Value) (store : List Object) → IsProperList store list (x ∷ xs) → IsItself store x y → Q y (sought ∷ list ∷ []) store
    → Comes s (seek_places v) (a_form k (item_key v)) (sought ∷ list ∷ []) store Q
item_key_comes s v sought k Q x y xs list store l e q =
    comes_car (comes_local (v + 1) 1 (at_list v) (cell_of 0 list x xs l, subst (λ w. Q w (sought ∷ list ∷ []) store) (sym e) q))

-- what `member` gives: what is behind so many conses, and begins with the object
abbrev IsMember : Value → Value → List Value → Value → List Object → Type 0
IsMember sought list items w store = (n : ℕ) × IsBehind store n list w × IsProperList store w (from_item sought items)

memv_gives : (names : List (List ℕ)) (program : ProgramRows) (limit : Limit) (z : State) (name : Option Name) (v truth number : ℕ)
    → HasTruth program truth → slice_get program.procedures number ≡ Some (memv name v truth)
    → (sought list : Value) (items : List Value) → IsProperList z.store list items
    → (kept : List Object) → IsExtended Object kept z.store → (k : ℕ) (wrong : Signals) (around : DynamicContext)
    → GivesKeeping kept limit k (suc (length items)) z (IsMember sought list items)
    (apply_procedure (at_level names program limit k) wrong number None (sought ∷ list ∷ []) around z)
memv_gives names program limit z name v truth number is_truth there sought list items l kept e =
    let es : List (Value × Value) = with_themselves items in
    let size : length es ≡ length items = themselves_length items in
    applies names program limit z kept (length items) number name (v ∷ (v + 1) ∷ []) (sequence (two (seek v truth (item_key v)) (local (v + 1))))
    (sought ∷ list ∷ []) (IsMember sought list items) e there (λ u. refl) refl
    (λ levels.
    let s : Setting = setting names program limit z kept (suc levels) (suc (length items)) in
    comes_sequence (first_then (weaker
    (seeks s v truth (item_key v) is_truth sought list IsItself (item_key_comes s v sought) (from_key sought es) levels es z.store
    (λ g. omega (arith, g, size)) (subst (λ us. IsProperList z.store list us) (sym (items_themselves items)) l) (keyed z.store items) refl)
    (λ nothing fr st f. at_frame f.frame_is (first_then (comes_local (v + 1) 1 (at_list v) (then_nothing
    (f.passed, f.behind, subst (λ us. IsProperList st f.list us) (found_themselves sought items) f.items))))))))
  where
    keyed : (store : List Object) (items : List Value) → Keyed IsItself store (with_themselves items)
    keyed store [] = tt
    keyed store (x ∷ xs) = (refl, keyed store xs)

pub law_of_member : LawOfMember
law_of_member names program name name' v v' truth memv_name number is_truth named there limit k wrong around z sought list items l =
    let P : Value → List Object → Type 0 = IsMember sought list items in
    let enough : suc (suc (length items)) ≡ length items + 2 = omega arith in
    subst (λ n. Gives limit k n z P (apply_procedure (at_level names program limit k) wrong number None (sought ∷ list ∷ []) around z)) enough
    (applies names program limit z z.store (suc (length items)) number name (v ∷ (v + 1) ∷ []) (sequence (one (call memv_name (two (local v) (local (v + 1))))))
    (sought ∷ list ∷ []) P (nothing_added z.store) there (λ u. refl) refl
    (λ levels.
    comes_sequence (first_then (comes_call (argument_and (comes_local v 0 (at_object v) (argument_and (comes_local (v + 1) 1 (at_list v) (no_arguments_left
    (called P (suc (length items)) (λ g. omega (arith, g)) z.store (nothing_added z.store) (λ w more now e g. then_nothing g)
    memv_name (memv name' v' truth) named (sought ∷ list ∷ []) (λ now h wrong around.
    memv_gives names program limit now name' v' truth named.number is_truth named.there sought list items
    (subst (λ os. IsProperList os list items) (sym h.objects_are) l) z.store (same_objects (sym h.objects_are)) levels wrong around))))))))))
    k wrong around)
