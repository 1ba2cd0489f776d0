-- The turns of judging the slots of a definition.
use Rattle.std.proofs.Common.{◌≡◌, ℕ, ◌+◌, ◌<◌, ◌≤◌, Bool, true, false, List, [], ◌∷◌, ◌++◌, Some, None, take, drop, suc, length, get_or, refl, sym, ap, ◌∙◌, cond, if◌then◌else◌, append_assoc, add-one}
use Rattle.std.specs.Option.{option_map}
use Rattle.std.proofs.Math.Seq.{drop-cons}
use Rattle.std.proofs.lemmas.Bool.{lt-ltb, le-ltb}
use Rattle.std.proofs.lemmas.List.{take_more, drop_all}
use Rattle.base.specs.declared.datum.Name.{Name}
use Rattle.base.specs.declared.place.Place.{Place}
use Rattle.base.specs.declared.reason.Stop.{Stop}
use Rattle.base.specs.declared.reason.Stop.TheVariants.{Refused, NoMemory}
use Rattle.lang_classes.specs.declared.slot_spec.SlotSpec.{SlotSpec}
use Rattle.lang_classes.specs.InheritedClasses.{GivenSlot, first_wrong, bad_slot, slot_limit, slots_refusal}
use Rattle.lang_classes.specs.InheritedSlots.{with_name, each_first}
use Rattle.lang_classes.specs.Given.{given, spec_names, is_wrong, StopsBy}
use Rattle.lang_classes.specs.FirstNames.{each_first-push}

more : (xs : List SlotSpec) (i : ℕ) (s : SlotSpec) → i < length xs → s ≡ get_or xs i s → take (i + 1) xs ≡ take i xs ++ s ∷ []
more xs i s h e = take_more xs i s h ∙ ap (λ x. take i xs ++ x ∷ []) (sym e)

rest : (xs : List SlotSpec) (i : ℕ) (s : SlotSpec) → i < length xs → s ≡ get_or xs i s → drop i xs ≡ s ∷ drop (i + 1) xs
rest xs i s h e = rw add-one (drop-cons xs i s h ∙ ap (λ x. x ∷ drop (suc i) xs) (sym e))

spec_names-push : (xs : List SlotSpec) (s : SlotSpec) → spec_names (xs ++ s ∷ []) ≡ spec_names xs ++ s.name ∷ []
spec_names-push [] s = refl
spec_names-push (x ∷ xs) s = ap (λ ns. x.name ∷ ns) (spec_names-push xs s)

-- the names so far, with one more
pub names_turn : (inherited : List Name) (xs : List SlotSpec) (i : ℕ) (s : SlotSpec) (names : List Name) → i < length xs → s ≡ get_or xs i s
    → names ≡ each_first (inherited ++ spec_names (take i xs)) → with_name s.name names ≡ each_first (inherited ++ spec_names (take (i + 1) xs))
names_turn inherited xs i s names h e k =
    rw (more xs i s h e, spec_names-push, ← append_assoc, each_first-push, k) refl

-- the first wrong one of those that are left
left_turn : (inherited : List Name) (xs : List SlotSpec) (i : ℕ) (s : SlotSpec) (names : List Name) → i < length xs → s ≡ get_or xs i s
    → names ≡ each_first (inherited ++ spec_names (take i xs))
    → first_wrong inherited (spec_names (take i xs)) (given (drop i xs))
    ≡ (if is_wrong s.name (spec_names (take i xs)) names then Some s.place else first_wrong inherited (spec_names (take (i + 1) xs)) (given (drop (i + 1) xs)))
left_turn inherited xs i s names h e k =
    rw (rest xs i s h e, more xs i s h e, spec_names-push, each_first-push, ← k) refl

-- none of them is
pub none_left : (inherited : List Name) (xs : List SlotSpec) (i : ℕ) → length xs ≤ i → first_wrong inherited (spec_names (take i xs)) (given (drop i xs)) ≡ None
none_left inherited xs i h = rw (drop_all i xs h) refl

-- the inherited slots alone are too many
pub too_many : (place : Place) (inherited names : List Name) (gs : List GivenSlot) (stop : Stop) → names ≡ each_first inherited → slot_limit < length names
    → stop ≡ Refused (bad_slot place) → StopsBy (slots_refusal place inherited gs) stop
unfolding slots_refusal
too_many place inherited names gs stop k h e =
    let many : slot_limit < length (each_first inherited) = rw (← k) h in
    rw e (ap (λ b. cond b (Some (bad_slot place)) (option_map bad_slot (first_wrong inherited [] gs))) (lt-ltb 64 (length (each_first inherited)) many))

-- they are not, and then the first wrong slot decides
few_inherited : (place : Place) (inherited names : List Name) (gs : List GivenSlot) → names ≡ each_first inherited → length names ≤ slot_limit
    → slots_refusal place inherited gs ≡ option_map bad_slot (first_wrong inherited [] gs)
unfolding slots_refusal
few_inherited place inherited names gs k h =
    let few : length (each_first inherited) ≤ slot_limit = rw (← k) h in
    ap (λ b. cond b (Some (bad_slot place)) (option_map bad_slot (first_wrong inherited [] gs))) (le-ltb 64 (length (each_first inherited)) few)

-- no slot is wrong
pub passes : (place : Place) (inherited names : List Name) (xs : List SlotSpec) (i : ℕ) → names ≡ each_first inherited → length names ≤ slot_limit
    → length xs ≤ i → first_wrong inherited (spec_names (take i xs)) (given (drop i xs)) ≡ first_wrong inherited [] (given xs)
    → slots_refusal place inherited (given xs) ≡ None
passes place inherited names xs i k h e left =
    few_inherited place inherited names (given xs) k h ∙ ap (option_map bad_slot) (sym left ∙ none_left inherited xs i e)

-- the next one is, or memory is wanting
pub stops : (place : Place) (inherited first names : List Name) (xs : List SlotSpec) (i : ℕ) (s : SlotSpec) (stop : Stop)
    → first ≡ each_first inherited → length first ≤ slot_limit → i < length xs → s ≡ get_or xs i s
    → names ≡ each_first (inherited ++ spec_names (take i xs))
    → first_wrong inherited (spec_names (take i xs)) (given (drop i xs)) ≡ first_wrong inherited [] (given xs)
    → StopsBy (if is_wrong s.name (spec_names (take i xs)) names then Some (bad_slot s.place) else None) stop
    → StopsBy (slots_refusal place inherited (given xs)) stop
stops place inherited first names xs i s NoMemory k few h e n before w = tt
stops place inherited first names xs i s (Refused r) k few h e n before w =
    let turn : first_wrong inherited [] (given xs)
    ≡ (if is_wrong s.name (spec_names (take i xs)) names then Some s.place else first_wrong inherited (spec_names (take (i + 1) xs)) (given (drop (i + 1) xs))) =
    sym before ∙ left_turn inherited xs i s names h e n in
    few_inherited place inherited first (given xs) k few ∙ ap (option_map bad_slot) turn ∙ by (is_wrong s.name (spec_names (take i xs)) names) w
  where
    by : (b : Bool) → (if b then Some (bad_slot s.place) else None) ≡ Some r
        → option_map bad_slot (if b then Some s.place else first_wrong inherited (spec_names (take (i + 1) xs)) (given (drop (i + 1) xs))) ≡ Some r
    by true w = w
    by false w = absurd (cc)

-- the next one is not
pub goes_on : (inherited names : List Name) (xs : List SlotSpec) (i : ℕ) (s : SlotSpec) → i < length xs → s ≡ get_or xs i s
    → names ≡ each_first (inherited ++ spec_names (take i xs))
    → first_wrong inherited (spec_names (take i xs)) (given (drop i xs)) ≡ first_wrong inherited [] (given xs)
    → is_wrong s.name (spec_names (take i xs)) names ≡ false
    → first_wrong inherited (spec_names (take (i + 1) xs)) (given (drop (i + 1) xs)) ≡ first_wrong inherited [] (given xs)
goes_on inherited names xs i s h e n before w =
    ap (λ b. if b then Some s.place else first_wrong inherited (spec_names (take (i + 1) xs)) (given (drop (i + 1) xs))) (sym w)
    ∙ sym (left_turn inherited xs i s names h e n) ∙ before
