-- The slots of a class definition, a slot at a time.
use Rattle.std.proofs.Common.{◌≡◌, ◌<◌, ℕ, ◌+◌, ◌++◌, ◌||◌, Bool, true, false, if◌then◌else◌, length, drop, List, [], ◌∷◌, ap, sym, ◌∙◌, append_assoc, arith}
use Rattle.std.specs.Prelude.{zero, suc, slice_index_or, flat_map}
use Rattle.base.specs.declared.reason.Reason.TheVariants.{BadSlot}
use Rattle.lang_classes.specs.Given.{is_wrong}
use Rattle.front_profile.specs.Nodes.{Part, wrong}
use Rattle.front_profile.specs.ClassRows.{has_wrong_options, part_of, functions_of, slot_parts}
use Rattle.base.specs.declared.datum.Name.{Name}
use Rattle.lang_classes.specs.InheritedSlots.{each_first, with_name}
use Rattle.lang_classes.specs.FirstNames.{each_first-push}
use Rattle.front_profile.specs.ClassShapes.{WrittenSlot}

-- the name of a slot more was seen
pub name_seen : (inherited earlier names : List Name) (n : Name) → names ≡ each_first (inherited ++ earlier)
    → with_name n names ≡ each_first (inherited ++ (earlier ++ n ∷ []))
name_seen inherited earlier names n h =
    ap (with_name n) h ∙ sym (each_first-push (inherited ++ earlier) n) ∙ ap each_first (append_assoc inherited earlier (n ∷ []))

-- the rest of a list from an item on
pub rest_seen : {X : Type 0} (xs : List X) (i : ℕ) (x : X) → i < length xs → x ≡ slice_index_or xs i x → drop i xs ≡ x ∷ drop (i + 1) xs
rest_seen [] i x l e = absurd (omega (arith, l))
rest_seen (y ∷ ys) zero x l e = let same : y ≡ x = cc in ap (λ z. z ∷ ys) same
rest_seen (y ∷ ys) (suc i) x l e =
    let s : suc i + 1 ≡ suc (i + 1) = omega arith in
    let below : i < length ys = omega (arith, l) in
    rw s (rest_seen ys i x below e)

right_by : (b : Bool) (w f ps qs all : List Part) → b ≡ false → f ++ (if b then w else ps ++ qs) ≡ all → (f ++ ps) ++ qs ≡ all
right_by true w f ps qs all h k = absurd (cc)
right_by false w f ps qs all h k = append_assoc f ps qs ∙ k

-- a slot that is right was seen
pub slot_turn : (inherited earlier : List Name) (found : List Part) (x : WrittenSlot) (rest xs : List WrittenSlot) (all : List Part) → xs ≡ x ∷ rest
    → (has_wrong_options x || is_wrong x.name earlier (each_first (inherited ++ earlier))) ≡ false
    → found ++ slot_parts inherited earlier xs ≡ all
    → (found ++ flat_map (part_of x) (functions_of x)) ++ slot_parts inherited (earlier ++ x.name ∷ []) rest ≡ all
slot_turn inherited earlier found x rest xs all e h k =
    right_by (has_wrong_options x || is_wrong x.name earlier (each_first (inherited ++ earlier))) (wrong x.place BadSlot ∷ []) found
    (flat_map (part_of x) (functions_of x)) (slot_parts inherited (earlier ++ x.name ∷ []) rest) all h
    (ap (λ ys. found ++ slot_parts inherited earlier ys) (sym e) ∙ k)
