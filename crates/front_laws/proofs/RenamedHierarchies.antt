-- Hierarchies of classes whose names and slots are renamed.
use Rattle.std.specs.Prelude.{◌≡◌, ℕ, ◌==◌, Bool, not, ◌&&◌, ◌||◌, nat_lt, List, [], ◌∷◌, ◌++◌, Option, Some, None, if◌then◌else◌, length, is_some, map, flat_map, option_map, slice_get, refl}
use Rattle.std.specs.List.{list_all}
use Rattle.std.proofs.Common.{ap, sym, ◌∙◌}
use Rattle.std.proofs.lemmas.List.{map-append}
use mathlib.Core.Path.{fun_ext}
use Rattle.base.specs.declared.datum.Name.{Name}
use Rattle.lang_meaning.specs.declared.program.ClassRow.{ClassRow}
use Rattle.lang_meaning.specs.declared.program.SlotRow.{SlotRow}
use Rattle.lang_meaning.specs.Lookup.{all_differ}
use Rattle.lang_classes.specs.declared.slot_spec.SlotSpec.{SlotSpec}
use Rattle.lang_classes.specs.Given.{given, is_wrong}
use Rattle.lang_classes.specs.InheritedPrecedence.{each_last, superclasses, above, precedence_below, is_open, share_more, clash, supers_fit}
use Rattle.lang_classes.specs.InheritedSlots.{same_name, has_name, without_name, each_first, with_name, of_name, last_initform, initargs_of, initform_of, slot_of, slots_of, names_of, united, slots_said_by, own_slots, said_by}
use Rattle.lang_classes.specs.InheritedClasses.{Hierarchy, GivenSlot, slots_given, slot_limit, inherited_names, row_of, with_own, with_class}
use Rattle.lang_renamed.specs.Renaming.{name_by, names_by, slot_by, slots_by, class_by}
use Rattle.front_laws.specs.Renaming.{Renames}
use Rattle.front_laws.proofs.RenamedTables.{hierarchy_by, spec_by}
use Rattle.lang_renamed.proofs.Classes.{precedence_by}
use Rattle.lang_renamed.proofs.Lists.{both, if_by, or_same, any_by, length_by, get_by, filter_by, map_by, flat_by}
use Rattle.front_laws.proofs.RenamedData.{same_number}

module _ (r : ℕ → ℕ) where
  abbrev pub given_slot_by : GivenSlot → GivenSlot
  given_slot_by g = record { place = g.place; slot = slot_by r g.slot }

  pub given_specs_by : (specs : List SlotSpec) → given (map (spec_by r) specs) ≡ map given_slot_by (given specs)
  given_specs_by [] = refl
  given_specs_by (s ∷ specs) = ap (λ (gs : List GivenSlot). given_slot_by (record { place = s.place; slot = record { name = s.name; initargs = s.initargs; initform = s.initform } }) ∷ gs) (given_specs_by specs)

  slots_given_by : (gs : List GivenSlot) → slots_given (map given_slot_by gs) ≡ slots_by r (slots_given gs)
  slots_given_by gs = map_by given_slot_by (slot_by r) (λ g. g.slot) (λ g. g.slot) (λ g. refl) gs

  pub names_of_by : (ss : List SlotRow) → names_of (slots_by r ss) ≡ names_by r (names_of ss)
  names_of_by ss = map_by (slot_by r) (name_by r) (λ s. s.name) (λ s. s.name) (λ s. refl) ss

  last_by : (ss : List SlotRow) → last_initform (slots_by r ss) ≡ last_initform ss
  last_by [] = refl
  last_by (s ∷ ss) = ap (λ (o : Option ℕ). if is_some o then o else s.initform) (last_by ss)

  said_of : (o : Option (List SlotRow)) → slots_said_by (option_map (slots_by r) o) ≡ slots_by r (slots_said_by o)
  said_of None = refl
  said_of (Some ss) = refl

  own_by : (own : List (List SlotRow)) (c : ℕ) → own_slots (map (slots_by r) own) c ≡ slots_by r (own_slots own c)
  own_by own c = ap slots_said_by (get_by (slots_by r) own c) ∙ said_of (slice_get own c)

  pub said_by_by : (own : List (List SlotRow)) (cs : List ℕ) → said_by (map (slots_by r) own) cs ≡ slots_by r (said_by own cs)
  said_by_by own [] = refl
  said_by_by own (c ∷ cs) =
      both (λ (xs ys : List SlotRow). xs ++ ys) _ _ _ _ (said_by_by own cs) (own_by own c) ∙ sym (map-append (slot_by r) (said_by own cs) (own_slots own c))

  -- ---- precedence lists

  pub above_by : (rows : List ClassRow) (cs : List ℕ) → above (map (class_by r) rows) cs ≡ above rows cs
  unfolding above
  above_by rows cs = ap (λ (f : ℕ → List ℕ). each_last (flat_map f (superclasses cs))) (fun_ext (precedence_by r rows))

  clash_by : (rows : List ClassRow) (a b : ℕ) → clash (map (class_by r) rows) a b ≡ clash rows a b
  clash_by rows a b = ap (λ c. a == b || c) (both share_more _ _ _ _ (precedence_by r rows a) (precedence_by r rows b))

  pub fit_by_rows : (rows : List ClassRow) (cs : List ℕ) → supers_fit (map (class_by r) rows) cs ≡ supers_fit rows cs
  unfolding supers_fit
  fit_by_rows rows cs = ap (λ (f : ℕ → ℕ → Bool). list_all is_open cs && all_differ f cs) (fun_ext (λ a. fun_ext (clash_by rows a)))

  pub inherited_by : (h : Hierarchy) (cs : List ℕ) → inherited_names (hierarchy_by r h) cs ≡ names_by r (inherited_names h cs)
  inherited_by h cs =
      ap (λ (ds : List ℕ). names_of (said_by (map (slots_by r) h.own) ds)) (above_by h.rows cs)
      ∙ ap (λ ss. names_of ss) (said_by_by h.own (above h.rows cs)) ∙ names_of_by (said_by h.own (above h.rows cs))

module _ (r : ℕ → ℕ) (old new : List (List ℕ)) (w : Renames r old new) where
  pub same_name_by : (m n : Name) → same_name (name_by r m) (name_by r n) ≡ same_name m n
  same_name_by m n = same_number r old new w m.0 n.0

  has_name_by : (n : Name) (ns : List Name) → has_name (name_by r n) (names_by r ns) ≡ has_name n ns
  has_name_by n ns = any_by (name_by r) (same_name (name_by r n)) (same_name n) (same_name_by n) ns

  without_by : (n : Name) (ns : List Name) → without_name (name_by r n) (names_by r ns) ≡ names_by r (without_name n ns)
  without_by n ns = filter_by (name_by r) (λ m. not (same_name (name_by r n) m)) (λ m. not (same_name n m)) (λ m. ap not (same_name_by n m)) ns

  pub each_first_by : (ns : List Name) → each_first (names_by r ns) ≡ names_by r (each_first ns)
  each_first_by [] = refl
  each_first_by (n ∷ ns) = ap (λ ms. name_by r n ∷ ms) (ap (without_name (name_by r n)) (each_first_by ns) ∙ without_by n (each_first ns))

  with_name_same : (n : Name) (ns : List Name) → with_name (name_by r n) (names_by r ns) ≡ names_by r (with_name n ns)
  with_name_same n ns = if_by (names_by r) _ (has_name n ns) _ _ ns (ns ++ n ∷ []) (has_name_by n ns) refl (sym (map-append (name_by r) ns (n ∷ [])))

  pub wrong_by : (n : Name) (earlier ns : List Name) → is_wrong (name_by r n) (names_by r earlier) (names_by r ns) ≡ is_wrong n earlier ns
  wrong_by n earlier ns =
      or_same _ _ _ _ (has_name_by n earlier)
      (ap (λ (k : ℕ). nat_lt slot_limit k) (ap (λ (ms : List Name). length ms) (with_name_same n ns) ∙ length_by (name_by r) (with_name n ns)))

  of_name_by : (n : Name) (ss : List SlotRow) → of_name (name_by r n) (slots_by r ss) ≡ slots_by r (of_name n ss)
  of_name_by n ss = filter_by (slot_by r) (λ s. same_name (name_by r n) s.name) (λ s. same_name n s.name) (λ s. same_name_by n s.name) ss

  initargs_by : (n : Name) (ss : List SlotRow) → initargs_of (name_by r n) (slots_by r ss) ≡ names_by r (initargs_of n ss)
  initargs_by n ss =
      ap (λ ts. each_first (flat_map (λ s. s.initargs) ts)) (of_name_by n ss)
      ∙ ap each_first (flat_by (slot_by r) (name_by r) (λ s. s.initargs) (λ s. s.initargs) (λ s. refl) (of_name n ss))
      ∙ each_first_by (flat_map (λ s. s.initargs) (of_name n ss))

  initform_by : (n : Name) (ss : List SlotRow) → initform_of (name_by r n) (slots_by r ss) ≡ initform_of n ss
  initform_by n ss = ap last_initform (of_name_by n ss) ∙ last_by r (of_name n ss)

  slot_of_by : (ss : List SlotRow) (n : Name) → slot_of (slots_by r ss) (name_by r n) ≡ slot_by r (slot_of ss n)
  slot_of_by ss n =
      both (λ (ms : List Name) (o : Option ℕ). record { name = name_by r n; initargs = ms; initform = o }) _ _ _ _ (initargs_by n ss) (initform_by n ss)

  pub united_by : (ss : List SlotRow) → united (slots_by r ss) ≡ slots_by r (united ss)
  unfolding united
  united_by ss =
      ap (slots_of (slots_by r ss)) (ap each_first (names_of_by r ss) ∙ each_first_by (names_of ss))
      ∙ map_by (name_by r) (slot_by r) (slot_of (slots_by r ss)) (slot_of ss) (slot_of_by ss) (each_first (names_of ss))

  row_of_by : (n : Name) (cs : List ℕ) (own : List (List SlotRow)) (abstract : Bool) → row_of (name_by r n) cs (map (slots_by r) own) abstract ≡ class_by r (row_of n cs own abstract)
  row_of_by n cs own abstract =
      ap (λ ss. record { name = name_by r n; precedence = cs; slots = ss; abstract_class = abstract }) (ap united (said_by_by r own cs) ∙ united_by (said_by own cs))

  with_own_by : (h : Hierarchy) (gs : List GivenSlot) → with_own (hierarchy_by r h) (map (given_slot_by r) gs) ≡ map (slots_by r) (with_own h gs)
  with_own_by h gs =
      ap (λ ss. map (slots_by r) h.own ++ ss ∷ []) (slots_given_by r gs) ∙ sym (map-append (slots_by r) h.own (slots_given gs ∷ []))

  pub with_class_by : (h : Hierarchy) (n : Name) (cs : List ℕ) (gs : List GivenSlot) (abstract : Bool) →
      with_class (hierarchy_by r h) (name_by r n) cs (map (given_slot_by r) gs) abstract ≡ hierarchy_by r (with_class h n cs gs abstract)
  unfolding with_class
  with_class_by h n cs gs abstract =
      let line : precedence_below (map (class_by r) h.rows) (length (map (class_by r) h.rows)) cs ≡ precedence_below h.rows (length h.rows) cs =
      both (λ (c : ℕ) (ds : List ℕ). c ∷ ds) _ _ _ _ (length_by (class_by r) h.rows) (above_by r h.rows cs) in
      let row = both (λ ds own. row_of (name_by r n) ds own abstract) _ _ _ _ line (with_own_by h gs) ∙ row_of_by n (precedence_below h.rows (length h.rows) cs) (with_own h gs) abstract in
      both (λ (rows : List ClassRow) (own : List (List SlotRow)). record { rows = rows; own = own }) _ _ _ _
      (ap (λ x. map (class_by r) h.rows ++ x ∷ []) row
      ∙ sym (map-append (class_by r) h.rows (row_of n (precedence_below h.rows (length h.rows) cs) (with_own h gs) abstract ∷ [])))
      (with_own_by h gs)
