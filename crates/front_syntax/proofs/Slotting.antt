-- The slots of a class, a datum at a time.
use Rattle.std.proofs.Common.{◌≡◌, ◌+◌, ◌≤◌, ◌++◌, List, [], ◌∷◌, length, refl, ap, sym, ◌∙◌, drop}
use Rattle.std.specs.Prelude.{ℕ, Option, Some, None}
use Rattle.std.proofs.lemmas.List.{append_assoc as assoc, append-nil, drop_all}
use Rattle.base.specs.Data.{Item}
use Rattle.front_profile.specs.Shapes.{symbol_of}
use Rattle.front_profile.specs.ClassShapes.{WrittenSlot, slot_and, slot_by, each_slot}
use Rattle.front_syntax.specs.Behind.{all_behind}
use Rattle.front_syntax.specs.ClassDefinitions.{view_slot, view_slots}
use Rattle.front_syntax.specs.declared.slots.WrittenSlot.{WrittenSlot as ReadSlot}

one_behind : (xs : List WrittenSlot) (s : WrittenSlot) (rest : Option (List WrittenSlot)) → all_behind (xs ++ s ∷ []) rest ≡ all_behind xs (slot_and (Some s) rest)
one_behind xs s None = refl
one_behind xs s (Some ys) = ap (λ zs. Some zs) (assoc xs (s ∷ []) ys)

-- the slots that were read, with one more
pub one_slot_more : (xs : List ReadSlot) (x : ReadSlot) → view_slots (xs ++ x ∷ []) ≡ view_slots xs ++ view_slot x ∷ []
one_slot_more [] x = refl
one_slot_more (y ∷ ys) x = ap (λ zs. view_slot y ∷ zs) (one_slot_more ys x)

-- a slot more was seen, a datum that is none, and the end

pub slot_turn : (names : List (List ℕ)) (ds : List Item) (i : ℕ) (d : Item) (s : WrittenSlot) (xs : List WrittenSlot) (all : Option (List WrittenSlot))
    → drop i ds ≡ d ∷ drop (i + 1) ds → slot_by names d (symbol_of d) ≡ Some s → all_behind xs (each_slot names (drop i ds)) ≡ all
    → all_behind (xs ++ s ∷ []) (each_slot names (drop (i + 1) ds)) ≡ all
slot_turn names ds i d s xs all now e h =
    one_behind xs s (each_slot names (drop (i + 1) ds))
    ∙ ap (λ o. all_behind xs (slot_and o (each_slot names (drop (i + 1) ds)))) (sym e)
    ∙ ap (λ es. all_behind xs (each_slot names es)) (sym now)
    ∙ h

pub slot_none : (names : List (List ℕ)) (ds : List Item) (i : ℕ) (d : Item) (xs : List WrittenSlot) (all : Option (List WrittenSlot))
    → drop i ds ≡ d ∷ drop (i + 1) ds → slot_by names d (symbol_of d) ≡ None → all_behind xs (each_slot names (drop i ds)) ≡ all → None ≡ all
slot_none names ds i d xs all now e h =
    ap (λ o. all_behind xs (slot_and o (each_slot names (drop (i + 1) ds)))) (sym e)
    ∙ ap (λ es. all_behind xs (each_slot names es)) (sym now)
    ∙ h

pub slots_end : (names : List (List ℕ)) (ds : List Item) (i : ℕ) (xs : List WrittenSlot) (all : Option (List WrittenSlot))
    → length ds ≤ i → all_behind xs (each_slot names (drop i ds)) ≡ all → Some xs ≡ all
slots_end names ds i xs all l h =
    ap (λ zs. Some zs) (sym (append-nil xs)) ∙ ap (λ es. all_behind xs (each_slot names es)) (sym (drop_all i ds l)) ∙ h
