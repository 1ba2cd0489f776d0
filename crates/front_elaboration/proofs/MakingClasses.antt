-- What the functions of a class add one after another.
use Rattle.std.proofs.Common.{◌≡◌, ◌≤◌, ◌+◌, ℕ, Bool, List, ◌∷◌, length, length-append, drop, refl, ap, sym, subst, ◌∙◌}
use Rattle.std.proofs.lemmas.List.{drop_all}
use Rattle.base.specs.declared.datum.Name.{Name}
use Rattle.lang_classes.specs.Given.{given}
use Rattle.lang_classes.specs.InheritedClasses.{Hierarchy, GivenSlot, with_class}
use Rattle.front_profile.specs.declared.tables.Tables.{Tables}
use Rattle.front_profile.specs.declared.elaboration.NewClass.{NewClass}
use Rattle.front_profile.specs.declared.elaboration.SlotFunction.{SlotFunction}
use Rattle.front_profile.specs.Elaborations.{prelude_count, with_slot_function, with_slot_functions, with_new_class}
use Rattle.front_profile.specs.Marks.{TablesGrow}
use Rattle.front_profile.specs.Suits.{SuitsFunction, SuitsFunctions}
use Rattle.front_profile.specs.bridge.Growing.{tables_grow_reflexive, tables_grow_transitive, slot_function_grows, class_grows}

-- of the functions xs on s, those in front of ys were added, which led to t
pub record FunctionsAdded (c : ℕ) (of_file : Bool) (xs : List SlotFunction) (p : ℕ) (s : Tables) (ys : List SlotFunction) (q : ℕ) (t : Tables) : Type 0 where
  pub same : with_slot_functions ys c q of_file t ≡ with_slot_functions xs c p of_file s
  pub suits : SuitsFunctions ys c q of_file t
  pub grows : TablesGrow s t

-- none at first
pub no_functions : (c : ℕ) (of_file : Bool) (xs : List SlotFunction) (p : ℕ) (s : Tables) → SuitsFunctions xs c p of_file s
    → FunctionsAdded c of_file xs p s xs p s
no_functions c of_file xs p s w = record { same = refl; suits = w; grows = tables_grow_reflexive s }

suits_first : (c : ℕ) (of_file : Bool) (x : SlotFunction) (ys zs : List SlotFunction) (q : ℕ) (t : Tables) → ys ≡ x ∷ zs
    → SuitsFunctions ys c q of_file t → SuitsFunctions (x ∷ zs) c q of_file t
suits_first c of_file x ys zs q t e w = subst (λ (ws : List SlotFunction). SuitsFunctions ws c q of_file t) e w

-- the next one suits the tables
pub next_function : (c : ℕ) (of_file : Bool) (xs : List SlotFunction) (p : ℕ) (s : Tables) (ys : List SlotFunction) (q : ℕ) (t : Tables) (x : SlotFunction) (zs : List SlotFunction)
    → FunctionsAdded c of_file xs p s ys q t → ys ≡ x ∷ zs → SuitsFunction x c q of_file t
next_function c of_file xs p s ys q t x zs a e = (suits_first c of_file x ys zs q t e a.suits).0

-- one more, before memory is wanting
pub grown : (c : ℕ) (of_file : Bool) (xs : List SlotFunction) (p : ℕ) (s : Tables) (ys : List SlotFunction) (q : ℕ) (t : Tables) (x : SlotFunction) (u : Tables)
    → FunctionsAdded c of_file xs p s ys q t → u ≡ with_slot_function x c q of_file t → TablesGrow s u
grown c of_file xs p s ys q t x u a f = subst (λ (v : Tables). TablesGrow s v) (sym f) (slot_function_grows s t x c q of_file a.grows)

-- one more
pub one_function : (c : ℕ) (of_file : Bool) (xs : List SlotFunction) (p : ℕ) (s : Tables) (ys : List SlotFunction) (q : ℕ) (t : Tables) (x : SlotFunction) (zs : List SlotFunction) (r : ℕ) (u : Tables)
    → FunctionsAdded c of_file xs p s ys q t → ys ≡ x ∷ zs → r ≡ q + 1 → u ≡ with_slot_function x c q of_file t → FunctionsAdded c of_file xs p s zs r u
one_function c of_file xs p s ys q t x zs r u a e n f = record {
  same =
      ap (λ m. with_slot_functions zs c m of_file u) n
      ∙ ap (λ v. with_slot_functions zs c (q + 1) of_file v) f
      ∙ ap (λ ws. with_slot_functions ws c q of_file t) (sym e)
      ∙ a.same;
  suits =
      subst (λ (m : ℕ). SuitsFunctions zs c m of_file u) (sym n)
      (subst (λ (v : Tables). SuitsFunctions zs c (q + 1) of_file v) (sym f) (suits_first c of_file x ys zs q t e a.suits).1);
  grows = grown c of_file xs p s ys q t x u a f;
}

-- all of them
pub all_functions : (c : ℕ) (of_file : Bool) (xs : List SlotFunction) (p : ℕ) (s : Tables) (ys : List SlotFunction) (i q : ℕ) (t : Tables)
    → FunctionsAdded c of_file xs p s (drop i ys) q t → length ys ≤ i → t ≡ with_slot_functions xs c p of_file s
all_functions c of_file xs p s ys i q t a l = ap (λ ws. with_slot_functions ws c q of_file t) (sym (drop_all i ys l)) ∙ a.same

-- with a class more there is one row more, which is counted where the class is one of the prelude

one_row_more : (h : Hierarchy) (name : Name) (supers : List ℕ) (slots : List GivenSlot) (a : Bool)
    → length (with_class h name supers slots a).rows ≡ length h.rows + 1
unfolding with_class
one_row_more h name supers slots a = length-append h.rows _

pub class_counted : (s u : Tables) (c : NewClass) (of_file : Bool) (h : Hierarchy) → h ≡ with_class s.classes c.name c.supers (given c.slots) c.abstract_class
    → u ≡ record s { classes = h; prelude_classes = prelude_count of_file s.prelude_classes (length h.rows) } → u ≡ with_new_class c of_file s
class_counted s u c of_file h e f =
    f
    ∙ ap (λ (g : Hierarchy). record s { classes = g; prelude_classes = prelude_count of_file s.prelude_classes (length g.rows) }) e
    ∙ ap (λ n. record s { classes = with_class s.classes c.name c.supers (given c.slots) c.abstract_class; prelude_classes = prelude_count of_file s.prelude_classes n })
    (one_row_more s.classes c.name c.supers (given c.slots) c.abstract_class)

-- tables that have grown by a class, and then by more
pub class_then : (s t u : Tables) (c : NewClass) (of_file : Bool) → t ≡ with_new_class c of_file s → TablesGrow t u → TablesGrow s u
class_then s t u c of_file e w =
    tables_grow_transitive s t u (subst (λ (v : Tables). TablesGrow s v) (sym e) (class_grows s s c of_file (tables_grow_reflexive s))) w
