-- Lists of names and of slots with one more at their end.
use Rattle.std.proofs.Common.{◌≡◌, ℕ, ◌+◌, ◌<◌, length, get_or, ◌⊎◌, inl, inr, ⊎_elim, Bool, true, false, List, [], ◌∷◌, ◌++◌, Option, Some, None, flat_map, take, is_some, refl, sym, ap, ◌∙◌, if◌then◌else◌, append_assoc, append-nil, ◌||◌}
use Rattle.std.proofs.lemmas.Bool.{eqb-true, eq-eqb}
use Rattle.std.proofs.lemmas.List.{take_more}
use Rattle.std.proofs.lemmas.List.Elements.{filter-append}
use Rattle.std.proofs.lemmas.List.Concat.{flat_map-append}
use Rattle.base.specs.declared.datum.Name.{Name}
use Rattle.lang_meaning.specs.declared.program.SlotRow.{SlotRow}
use Rattle.lang_classes.specs.FirstNames.{either, same_name-back, same_name-apart, same_name-other, each_first-push}
use Rattle.lang_classes.specs.InheritedSlots.{same_name, has_name, with_name, with_names, without_name, each_first, of_name, initargs_of, initform_of, last_initform, names_of}

-- and with more
pub each_first-more : (ms ns : List Name) → each_first (ns ++ ms) ≡ with_names ms (each_first ns)
each_first-more [] ns = rw append-nil refl
each_first-more (m ∷ ms) ns =
    ap each_first (sym (append_assoc ns (m ∷ []) ms)) ∙ each_first-more ms (ns ++ m ∷ []) ∙ ap (with_names ms) (each_first-push ns m)

pub names_of-push : (said : List SlotRow) (s : SlotRow) → names_of (said ++ s ∷ []) ≡ names_of said ++ s.name ∷ []
names_of-push [] s = refl
names_of-push (x ∷ said) s = ap (λ ns. x.name ∷ ns) (names_of-push said s)

-- the names of the slots so far and of one more
pub names-push : (said : List SlotRow) (s : SlotRow) → each_first (names_of (said ++ s ∷ [])) ≡ with_name s.name (each_first (names_of said))
names-push said s = rw (names_of-push said s) (each_first-push (names_of said) s.name)

-- what is said of a slot, with one more that speaks of it or of another
pub of_name-push : (n : Name) (said : List SlotRow) (s : SlotRow) → of_name n (said ++ s ∷ []) ≡ (if same_name n s.name then of_name n said ++ s ∷ [] else of_name n said)
of_name-push n said s = filter-append (λ x. same_name n x.name) said (s ∷ []) ∙ by (either (same_name n s.name))
  where
    by : (same_name n s.name ≡ true) ⊎ (same_name n s.name ≡ false)
        → of_name n said ++ of_name n (s ∷ []) ≡ (if same_name n s.name then of_name n said ++ s ∷ [] else of_name n said)
    by (inl h) = rw h refl
    by (inr h) = rw h (append-nil (of_name n said))

last_initform-push : (said : List SlotRow) (s : SlotRow) → last_initform (said ++ s ∷ []) ≡ (if is_some s.initform then s.initform else last_initform said)
last_initform-push [] s = by s.initform
  where
    by : (o : Option ℕ) → o ≡ (if is_some o then o else None)
    by None = refl
    by (Some x) = refl
last_initform-push (x ∷ said) s = rw (last_initform-push said s) (by s.initform)
  where
    by : (o : Option ℕ) → (if is_some (if is_some o then o else last_initform said) then (if is_some o then o else last_initform said) else x.initform)
        ≡ (if is_some o then o else (if is_some (last_initform said) then last_initform said else x.initform))
    by None = refl
    by (Some y) = refl

-- one more slot that is of the name, and one that is of another
of_name-same : (n : Name) (said : List SlotRow) (s : SlotRow) → same_name n s.name ≡ true → of_name n (said ++ s ∷ []) ≡ of_name n said ++ s ∷ []
of_name-same n said s h = of_name-push n said s ∙ ap (λ b. if b then of_name n said ++ s ∷ [] else of_name n said) h

of_name-other : (n : Name) (said : List SlotRow) (s : SlotRow) → same_name n s.name ≡ false → of_name n (said ++ s ∷ []) ≡ of_name n said
of_name-other n said s h = of_name-push n said s ∙ ap (λ b. if b then of_name n said ++ s ∷ [] else of_name n said) h

initform-same : (n : Name) (said : List SlotRow) (s : SlotRow) → same_name n s.name ≡ true
    → initform_of n (said ++ s ∷ []) ≡ (if is_some s.initform then s.initform else initform_of n said)
initform-same n said s h = ap last_initform (of_name-same n said s h) ∙ last_initform-push (of_name n said) s

initform-other : (n : Name) (said : List SlotRow) (s : SlotRow) → same_name n s.name ≡ false → initform_of n (said ++ s ∷ []) ≡ initform_of n said
initform-other n said s h = ap last_initform (of_name-other n said s h)

all_initargs : List SlotRow → List Name
all_initargs ss = flat_map (λ x. x.initargs) ss

initargs-same : (n : Name) (said : List SlotRow) (s : SlotRow) → same_name n s.name ≡ true
    → initargs_of n (said ++ s ∷ []) ≡ with_names s.initargs (initargs_of n said)
unfolding all_initargs
initargs-same n said s h =
    ap (λ ss. each_first (all_initargs ss)) (of_name-same n said s h)
    ∙ ap each_first (flat_map-append (λ (x : SlotRow). x.initargs) (of_name n said) (s ∷ []) ∙ ap (λ xs. all_initargs (of_name n said) ++ xs) (append-nil s.initargs))
    ∙ each_first-more s.initargs (all_initargs (of_name n said))

initargs-other : (n : Name) (said : List SlotRow) (s : SlotRow) → same_name n s.name ≡ false → initargs_of n (said ++ s ∷ []) ≡ initargs_of n said
unfolding all_initargs
initargs-other n said s h = ap (λ ss. each_first (all_initargs ss)) (of_name-other n said s h)

-- the turns of the loops over slots

more : (said : List SlotRow) (i : ℕ) (s : SlotRow) → i < length said → s ≡ get_or said i s → take (i + 1) said ≡ take i said ++ s ∷ []
more said i s h e = take_more said i s h ∙ ap (λ x. take i said ++ x ∷ []) (sym e)

pub names_turn : (said : List SlotRow) (i : ℕ) (s : SlotRow) (names : List Name) → i < length said → s ≡ get_or said i s
    → names ≡ each_first (names_of (take i said)) → with_name s.name names ≡ each_first (names_of (take (i + 1) said))
names_turn said i s names h e k = rw (more said i s h e, names-push, k) refl

pub initargs_turn : (n : Name) (said : List SlotRow) (i : ℕ) (s : SlotRow) (names : List Name) → i < length said → s ≡ get_or said i s
    → names ≡ initargs_of n (take i said) → (if same_name n s.name then with_names s.initargs names else names) ≡ initargs_of n (take (i + 1) said)
initargs_turn n said i s names h e k =
    rw (more said i s h e, k)
    (⊎_elim
    (λ a. rw a (sym (initargs-same n (take i said) s a)))
    (λ a. rw a (sym (initargs-other n (take i said) s a)))
    (either (same_name n s.name)))

pub initform_turn : (n : Name) (said : List SlotRow) (i : ℕ) (s : SlotRow) (found : Option ℕ) → i < length said → s ≡ get_or said i s
    → found ≡ initform_of n (take i said)
    → (if same_name n s.name then (if is_some s.initform then s.initform else found) else found) ≡ initform_of n (take (i + 1) said)
initform_turn n said i s found h e k =
    rw (more said i s h e, k)
    (⊎_elim
    (λ a. rw a (sym (initform-same n (take i said) s a)))
    (λ a. rw a (sym (initform-other n (take i said) s a)))
    (either (same_name n s.name)))
