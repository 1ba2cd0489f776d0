-- The renamed tables in front of all forms are those under the other table of names.
use Rattle.std.specs.Prelude.{◌≡◌, ℕ, ◌+◌, ◌≤◌, List, [], ◌∷◌, Option, Some, None, map, take, option_map, slice_get, refl}
use Rattle.std.proofs.Common.{ap, sym, ◌∙◌, subst}
use Rattle.base.specs.declared.datum.Name.{Name}
use Rattle.lang_meaning.specs.declared.program.ClassRow.{ClassRow}
use Rattle.lang_meaning.specs.declared.program.SlotRow.{SlotRow}
use Rattle.lang_meaning.specs.BuiltIn.{class_texts}
use Rattle.lang_meaning.specs.Objects.{built_in_classes}
use Rattle.lang_classes.specs.InheritedSlots.{names_of, said_by, united}
use Rattle.lang_classes.specs.InheritedClasses.{Hierarchy, class_named, slot_limit, IsInherited, IsRow, AreClasses, IsBuiltIn, IsHierarchy}
use Rattle.lang_classes.specs.InheritedBuiltIn.{built_in_own, own_initarg, texts_of, SaysSlots, AreNamed}
use Rattle.front_profile.specs.declared.tables.ReservedWords.{ReservedWords}
use Rattle.front_profile.specs.declared.tables.Tables.{Tables}
use Rattle.front_scope.specs.Scopes.{AreWords, first_mark, first_tables, AreInitialTables}
use Rattle.lang_renamed.specs.Renaming.{name_by, names_by, slot_by, slots_by, class_by}
use Rattle.front_laws.specs.Renaming.{Renames}
use Rattle.front_laws.proofs.RenamedTables.{hierarchy_by, words_by, tables_by}
use Rattle.lang_renamed.proofs.Lists.{length_by, get_by, take_by}
use Rattle.front_laws.proofs.RenamedForms.{class_named_by}
use Rattle.front_laws.proofs.RenamedHierarchies.{names_of_by, said_by_by, above_by, fit_by_rows, united_by}

-- an item of a renamed list is a renamed item
some_got : {X Y : Type 0} (f : X → Y) (o : Option X) (y : Y) → option_map f o ≡ Some y → (x : X) × ((o ≡ Some x) × (f x ≡ y))
some_got f None y e = absurd (cc)
some_got f (Some x) y e = (x, (refl, cc))

got : {X Y : Type 0} (f : X → Y) (xs : List X) (i : ℕ) (y : Y) → slice_get (map f xs) i ≡ Some y → (x : X) × ((slice_get xs i ≡ Some x) × (f x ≡ y))
got f xs i y e = some_got f (slice_get xs i) y (sym (get_by f xs i) ∙ e)

-- the first tables, with that number of classes
abbrev with_counts : ReservedWords → Hierarchy → ℕ → Tables
with_counts words classes n =
    record (first_tables words classes) { prelude_classes = n; before = record (first_mark classes) { classes = n; prelude_classes = n } }

module _ (r : ℕ → ℕ) (old new : List (List ℕ)) (w : Renames r old new) where
  inherited_from : (rows : List ClassRow) (c : ℕ) (ds : List ℕ) → IsInherited rows c ds → IsInherited (map (class_by r) rows) c ds
  inherited_from rows c ds x = record {
    supers = x.supers;
    fit = fit_by_rows r rows x.supers ∙ x.fit;
    is = x.is ∙ ap (λ (es : List ℕ). c ∷ es) (sym (above_by r rows x.supers));
  }

  row_from : (rows : List ClassRow) (own : List (List SlotRow)) (c : ℕ) (x : ClassRow) → IsRow rows own c x → IsRow (map (class_by r) rows) (map (slots_by r) own) c (class_by r x)
  row_from rows own c x h = record {
    in_range = h.in_range;
    slots = ap (slots_by r) h.slots ∙ sym (united_by r old new w (said_by own x.precedence)) ∙ ap united (sym (said_by_by r own x.precedence));
    few = subst (λ (n : ℕ). n ≤ slot_limit) (sym (length_by (slot_by r) x.slots)) h.few;
    below = λ k. inherited_from rows c x.precedence (h.below k);
  }

  classes_from : (h : Hierarchy) → AreClasses h → AreClasses (hierarchy_by r h)
  classes_from h x = record {
    paired = length_by (slots_by r) h.own ∙ x.paired ∙ sym (length_by (class_by r) h.rows);
    right = λ c y e.
        let g = got (class_by r) h.rows c y e in
        subst (IsRow (take c (map (class_by r) h.rows)) (take (c + 1) (map (slots_by r) h.own)) c) g.1.1
        (subst (λ rows. IsRow rows (take (c + 1) (map (slots_by r) h.own)) c (class_by r g.0)) (sym (take_by (class_by r) c h.rows))
        (subst (λ own. IsRow (map (class_by r) (take c h.rows)) own c (class_by r g.0)) (sym (take_by (slots_by r) (c + 1) h.own))
        (row_from (take c h.rows) (take (c + 1) h.own) c g.0 (x.right c g.0 g.1.0))));
    named = λ c y e.
        let g = got (class_by r) h.rows c y e in
        subst (λ (z : ClassRow). class_named (map (class_by r) h.rows) z.name ≡ Some c) g.1.1 (class_named_by r old new w h.rows g.0.name ∙ x.named c g.0 g.1.0);
  }

  built_in_from : (c : ℕ) (x : ClassRow) → IsBuiltIn c x → IsBuiltIn c (class_by r x)
  built_in_from c x h = record { precedence = h.precedence; count = h.count ∙ ap (λ (n : ℕ). Some n) (sym (length_by (slot_by r) x.slots)); concrete = h.concrete }

  hierarchy_from : (h : Hierarchy) → IsHierarchy h → IsHierarchy (hierarchy_by r h)
  hierarchy_from h x = record {
    classes = classes_from h x.classes;
    enough = subst (λ (n : ℕ). built_in_classes ≤ n) (sym (length_by (class_by r) h.rows)) x.enough;
    built_in = λ c y few e. let g = got (class_by r) h.rows c y e in subst (IsBuiltIn c) g.1.1 (built_in_from c g.0 (x.built_in c g.0 few g.1.0));
  }

  texts_from : (ns : List Name) → texts_of new (names_by r ns) ≡ texts_of old ns
  texts_from [] = refl
  texts_from (n ∷ ns) = ap (λ t. t ∷ texts_of new (names_by r ns)) (w.texts n.0) ∙ ap (λ ts. slice_get old n.0 ∷ ts) (texts_from ns)

  own_from : (ns : List Name) → slots_by r (map own_initarg ns) ≡ map own_initarg (names_by r ns)
  own_from [] = refl
  own_from (n ∷ ns) = ap (λ ss. own_initarg (name_by r n) ∷ ss) (own_from ns)

  says_from : (ts : List (List ℕ)) (ss : List SlotRow) → SaysSlots old ts ss → SaysSlots new ts (slots_by r ss)
  says_from ts ss x = record {
    names_are = ap (texts_of new) (names_of_by r ss) ∙ texts_from (names_of ss) ∙ x.names_are;
    slots_are = ap (slots_by r) x.slots_are ∙ own_from (names_of ss) ∙ ap (λ ns. map own_initarg ns) (sym (names_of_by r ss));
  }

  named_from : (h : Hierarchy) → AreNamed old h → AreNamed new (hierarchy_by r h)
  named_from h x = record {
    names = λ c y e.
        let g = got (class_by r) h.rows c y e in
        subst (λ (z : ClassRow). slice_get new z.name.0 ≡ slice_get class_texts c) g.1.1 (w.texts g.0.name.0 ∙ x.names c g.0 g.1.0);
    own = λ c ys e. let g = got (slots_by r) h.own c ys e in subst (SaysSlots new (built_in_own c)) g.1.1 (says_from (built_in_own c) g.0 (x.own c g.0 g.1.0));
  }

  words_from : (ws : ReservedWords) → AreWords old ws → AreWords new (words_by r ws)
  words_from ws x = record {
    truth = w.texts ws.truth.0 ∙ x.truth;
    rest = w.texts ws.rest.0 ∙ x.rest;
    and_rest = w.texts ws.and_rest.0 ∙ x.and_rest;
  }

  pub first_from : (s : Tables) → AreInitialTables old s → AreInitialTables new (tables_by r s)
  first_from s x = record {
    words = words_from s.words x.words;
    classes = record {
      hierarchy = hierarchy_from s.classes x.classes.hierarchy;
      number = length_by (class_by r) s.classes.rows ∙ x.classes.number;
      named = named_from s.classes x.classes.named;
    };
    nothing_else =
        ap (tables_by r) x.nothing_else
        ∙ ap (λ (n : ℕ). with_counts (words_by r s.words) (hierarchy_by r s.classes) n) (sym (length_by (class_by r) s.classes.rows));
  }
