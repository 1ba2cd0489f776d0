-- The tables in front of all forms, under names that begin with the first ones.
use Rattle.std.proofs.Common.{◌≡◌, ℕ, ◌+◌, ◌≤◌, true, false, nat_le, List, ◌++◌, Some, All, map, take, length, slice_get, refl, arith, leb-true}
use Rattle.std.specs.List.{list_all}
use Rattle.std.proofs.lemmas.Option.{slice_get_within}
use Rattle.lang_meaning.specs.declared.program.ClassRow.{ClassRow}
use Rattle.lang_meaning.specs.declared.program.SlotRow.{SlotRow}
use Rattle.lang_meaning.specs.BuiltIn.{built_in_precedence, built_in_slots, class_texts}
use Rattle.lang_classes.specs.InheritedSlots.{names_of, said_by, united}
use Rattle.lang_classes.specs.InheritedClasses.{IsRow, IsBuiltIn, IsHierarchy, class_named, slot_limit}
use Rattle.lang_classes.specs.InheritedBuiltIn.{AreNamed, built_in_own, own_initarg, texts_of}
use Rattle.front_scope.specs.Scopes.{AreInitialTables}
use Rattle.lang_worked.specs.FileNames.{first_names, class_rows, classes, first}
use Rattle.lang_worked.proofs.EachPlace.{same_at, all_at_most}

in_range : (c : ℕ) (row : ClassRow) → slice_get class_rows c ≡ Some row → All (λ d. d ≤ c) row.precedence
in_range c row h =
    all_at_most c row.precedence (same_at (λ (n : ℕ) (r : ClassRow). list_all (λ d. nat_le d n) r.precedence) (λ n r. true) class_rows refl c row h)

slots_are : (c : ℕ) (row : ClassRow) → slice_get class_rows c ≡ Some row → row.slots ≡ united (said_by (take (c + 1) classes.own) row.precedence)
unfolding united
slots_are c row h = same_at (λ (n : ℕ) (r : ClassRow). r.slots) (λ n r. united (said_by (take (n + 1) classes.own) r.precedence)) class_rows refl c row h

few : (c : ℕ) (row : ClassRow) → slice_get class_rows c ≡ Some row → length row.slots ≤ slot_limit
few c row h =
    leb-true (length row.slots) slot_limit (same_at (λ (n : ℕ) (r : ClassRow). nat_le (length r.slots) slot_limit) (λ n r. true) class_rows refl c row h)

right : (c : ℕ) (row : ClassRow) → slice_get class_rows c ≡ Some row → IsRow (take c class_rows) (take (c + 1) classes.own) c row
right c row h = record {
  in_range = in_range c row h;
  slots = slots_are c row h;
  few = few c row h;
  below = λ own_class. absurd (omega (arith, slice_get_within class_rows c row h));
}

built_in : (c : ℕ) (row : ClassRow) → slice_get class_rows c ≡ Some row → IsBuiltIn c row
built_in c row h = record {
  precedence = same_at (λ (n : ℕ) (r : ClassRow). slice_get built_in_precedence n) (λ n r. Some r.precedence) class_rows refl c row h;
  count = same_at (λ (n : ℕ) (r : ClassRow). slice_get built_in_slots n) (λ n r. Some (length r.slots)) class_rows refl c row h;
  concrete = same_at (λ (n : ℕ) (r : ClassRow). r.abstract_class) (λ n r. false) class_rows refl c row h;
}

named : (more : List (List ℕ)) → AreNamed (first_names ++ more) classes
named more = record {
  names = λ c row h. same_at (λ (n : ℕ) (r : ClassRow). slice_get (first_names ++ more) r.name.0) (λ n r. slice_get class_texts n) class_rows refl c row h;
  own = λ c slots h. record {
    names_are = same_at (λ (n : ℕ) (ss : List SlotRow). texts_of (first_names ++ more) (names_of ss)) (λ n ss. map (λ t. Some t) (built_in_own n)) classes.own refl c slots h;
    slots_are = same_at (λ (n : ℕ) (ss : List SlotRow). ss) (λ n ss. map own_initarg (names_of ss)) classes.own refl c slots h;
  };
}

hierarchy : IsHierarchy classes
hierarchy = record {
  classes = record {
    paired = refl;
    right = right;
    named = λ c row h. same_at (λ (n : ℕ) (r : ClassRow). class_named class_rows r.name) (λ n r. Some n) class_rows refl c row h;
  };
  enough = omega arith;
  built_in = λ c row below h. built_in c row h;
}

pub is_first : (more : List (List ℕ)) → AreInitialTables (first_names ++ more) first
is_first more = record {
  words = record { truth = refl; rest = refl; and_rest = refl };
  classes = record { hierarchy = hierarchy; number = refl; named = named more };
  nothing_else = refl;
}
