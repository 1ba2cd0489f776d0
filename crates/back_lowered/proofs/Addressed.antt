-- Where the words of the variables of a program are, from where those of the names are that its forms use.
use Rattle.std.proofs.Common.{◌≡◌, ℕ, ◌+◌, ◌*◌, List, [], length, map, ◌∙◌, ap}
use Rattle.std.specs.List.{range_with_len}
use Rattle.lang_meaning.specs.Lookup.{text}
use Rattle.lang_meaning.specs.Cells.{one_of_each}
use Rattle.flat_language.specs.declared.program.FlatProgram.{FlatProgram}
use Rattle.back_lowering.specs.ControlWords.{variables_address}
use Rattle.back_words.specs.Uses.{program_uses}
use Rattle.back_words.specs.Variables.{address_among, global_names, dynamic_names, global_addresses, dynamic_addresses, dynamics_from, variable_count}
use Rattle.back_uses.specs.declared.used.UsedNames.{UsedNames}
use Rattle.back_uses.specs.Used.{AreUsed}

module _ (names : List (List ℕ)) (program : FlatProgram) (used : UsedNames) (are : AreUsed (program_uses names program) used) where
  module _ (globals : List ℕ) (firsts : globals ≡ one_of_each (text names) [] used.globals) where
    global_names_are : globals ≡ global_names names program
    global_names_are = firsts ∙ ap (one_of_each (text names) []) are.globals

    pub globals_at : (ws : List ℕ) → ws ≡ map (address_among (text names) variables_address globals) (range_with_len 0 (length names))
        → ws ≡ global_addresses names program
    globals_at ws e = e ∙ ap (λ gs. map (address_among (text names) variables_address gs) (range_with_len 0 (length names))) global_names_are

    module _ (dynamics : List ℕ) (others : dynamics ≡ one_of_each (text names) [] used.dynamics) where
      dynamic_names_are : dynamics ≡ dynamic_names names program
      dynamic_names_are = others ∙ ap (one_of_each (text names) []) are.dynamics

      pub dynamics_at : (from : ℕ) (ws : List ℕ) → from ≡ variables_address + 4 * length globals
          → ws ≡ map (address_among (text names) from dynamics) (range_with_len 0 (length names)) → ws ≡ dynamic_addresses names program
      dynamics_at from ws begin e =
          e
          ∙ ap (λ f. map (address_among (text names) f dynamics) (range_with_len 0 (length names)))
          (begin ∙ ap (λ gs. variables_address + 4 * length gs) global_names_are)
          ∙ ap (λ ds. map (address_among (text names) (dynamics_from names program) ds) (range_with_len 0 (length names))) dynamic_names_are

      pub count_is : (m n : ℕ) → m ≡ length globals → n ≡ length dynamics → m + n ≡ variable_count names program
      count_is m n all others_all =
          ap (λ k. k + n) (all ∙ ap length global_names_are)
          ∙ ap (λ k. length (global_names names program) + k) (others_all ∙ ap length dynamic_names_are)
