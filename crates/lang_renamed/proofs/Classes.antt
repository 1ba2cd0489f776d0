-- Classes and methods of a renamed program: the same lines, and so the same methods of each call.
use Rattle.std.specs.Prelude.{◌≡◌, ℕ, ◌+◌, ◌==◌, Bool, ◌&&◌, ◌||◌, not, nat_lt, nat_le, List, [], ◌∷◌, Option, Some, None, if◌then◌else◌, length, map, option_map, filter, slice_get, refl}
use Rattle.std.specs.List.{position_or_len}
use Rattle.std.proofs.Common.{ap, ◌∙◌}
use mathlib.Core.Path.{fun_ext}
use Rattle.lang_meaning.specs.declared.program.ClassRow.{ClassRow}
use Rattle.lang_meaning.specs.declared.program.SlotRow.{SlotRow}
use Rattle.lang_meaning.specs.declared.program.GenericRow.{GenericRow}
use Rattle.lang_meaning.specs.declared.program.MethodRow.{MethodRow}
use Rattle.lang_meaning.specs.declared.program.Qualifier.TheVariants.{Primary}
use Rattle.lang_meaning.specs.declared.program.ProgramRows.{ProgramRows}
use Rattle.lang_meaning.specs.Values.{Value}
use Rattle.lang_meaning.specs.Objects.{built_in_classes, serious_condition_class}
use Rattle.lang_meaning.specs.State.{State}
use Rattle.lang_meaning.specs.Lookup.{is_in}
use Rattle.lang_meaning.specs.Classes.{class_of, precedence_of, slots_of, precedence, slots, is_below, is_condition, applies, more_specific, ordered, applicable, of_kind, chain_of, chain}
use Rattle.lang_meaning.specs.Primitives.{is_abstract, can_be_made, instance_words}
use Rattle.lang_renamed.specs.Renaming.{slots_by, slot_by, class_by, generic_by, program_by}
use Rattle.lang_renamed.specs.RenamedRuns.{state_by}
use Rattle.lang_renamed.proofs.Lists.{both, if_same, and_same, get_by, length_by}
use Rattle.lang_renamed.proofs.Stores.{class_of_by}

module _ (r : ℕ → ℕ) where
  precedence_some : (o : Option ClassRow) → precedence_of (option_map (class_by r) o) ≡ precedence_of o
  precedence_some None = refl
  precedence_some (Some c) = refl

  pub precedence_by : (rows : List ClassRow) (c : ℕ) → precedence_of (slice_get (map (class_by r) rows) c) ≡ precedence_of (slice_get rows c)
  precedence_by rows c = ap precedence_of (get_by (class_by r) rows c) ∙ precedence_some (slice_get rows c)

  slots_some : (o : Option ClassRow) → slots_of (option_map (class_by r) o) ≡ slots_by r (slots_of o)
  slots_some None = refl
  slots_some (Some c) = refl

  abstract_some : (o : Option ClassRow) → is_abstract (option_map (class_by r) o) ≡ is_abstract o
  abstract_some None = refl
  abstract_some (Some c) = refl

  module _ (p : ProgramRows) where
    pub line_by : (c : ℕ) → precedence (program_by r p) c ≡ precedence p c
    line_by c = precedence_by p.classes c

    pub slots_of_by : (c : ℕ) → slots (program_by r p) c ≡ slots_by r (slots p c)
    slots_of_by c = ap slots_of (get_by (class_by r) p.classes c) ∙ slots_some (slice_get p.classes c)

    pub slot_count_by : (c : ℕ) → length (slots (program_by r p) c) ≡ length (slots p c)
    slot_count_by c = ap (λ (ss : List SlotRow). length ss) (slots_of_by c) ∙ length_by (slot_by r) (slots p c)

    pub below_by : (c d : ℕ) → is_below (program_by r p) c d ≡ is_below p c d
    below_by c d = ap (is_in d) (line_by c)

    pub condition_by : (z : State) (v : Value) → is_condition (program_by r p) (state_by r z) v ≡ is_condition p z v
    condition_by z v = ap (λ c. is_below (program_by r p) c serious_condition_class) (class_of_by r z v) ∙ below_by (class_of z v) serious_condition_class

    pub made_by : (c : ℕ) → can_be_made (program_by r p) c ≡ can_be_made p c
    made_by c =
        both (λ (a b : Bool). not a && (nat_le built_in_classes c || b)) _ _ _ _
        (ap is_abstract (get_by (class_by r) p.classes c) ∙ abstract_some (slice_get p.classes c)) (below_by c serious_condition_class)

    pub instance_words_by : (c n : ℕ) → instance_words (program_by r p) c n ≡ instance_words p c n
    instance_words_by c n = ap (λ (b : Bool). 2 + n + (if b then 1 else 0)) (below_by c serious_condition_class)

    applies_by : (cs ms : List ℕ) → applies (program_by r p) cs ms ≡ applies p cs ms
    applies_by [] [] = refl
    applies_by [] (m ∷ ms) = refl
    applies_by (c ∷ cs) [] = refl
    applies_by (c ∷ cs) (m ∷ ms) = and_same _ _ _ _ (below_by c m) (applies_by cs ms)

    specific_by : (cs ms ns : List ℕ) → more_specific (program_by r p) cs ms ns ≡ more_specific p cs ms ns
    specific_by (c ∷ cs) (m ∷ ms) (n ∷ ns) =
        if_same (m == n) (m == n) _ _ _ _ refl (specific_by cs ms ns)
        (ap (λ (ds : List ℕ). nat_lt (position_or_len (λ d. d == m) ds) (position_or_len (λ d. d == n) ds)) (line_by c))
    specific_by cs ms ns = refl

    pub applicable_by : (cs : List ℕ) (ms : List MethodRow) → applicable (program_by r p) cs ms ≡ applicable p cs ms
    applicable_by cs ms =
        both (λ (f : MethodRow → MethodRow → Bool) (g : MethodRow → Bool). ordered f (filter g ms)) _ _ _ _
        (fun_ext (λ m. fun_ext (λ n. specific_by cs m.classes n.classes))) (fun_ext (λ m. applies_by cs m.classes))

    -- the methods of a call
    pub chain_by : (g : GenericRow) (cs : List ℕ) → chain (program_by r p) (generic_by r g) cs ≡ chain p g cs
    chain_by g cs = ap (λ ms. chain_of ms (of_kind Primary ms)) (applicable_by cs g.methods)
