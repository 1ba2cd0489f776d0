-- Which part of a program is too large to be laid.
use Rattle.std.proofs.Common.{◌≡◌, ◌⊎◌, inl, inr, ℕ, ◌+◌, ◌*◌, ◌^◌, ◌<◌, List, [], ◌++◌, length, ◌∙◌, ap, subst}
use Rattle.std.specs.Prelude.{replicate}
use Rattle.flat_language.specs.declared.program.FlatProgram.{FlatProgram}
use Rattle.flat_language.specs.FlatNodes.{tables}
use Rattle.mid_arena.specs.Tags.{unbound_word}
use Rattle.mid_start.specs.declared.static_data.StaticData.{StaticData}
use Rattle.mid_start.specs.StaticData.{IsStaticData}
use Rattle.back_laying.specs.TooLarge.{DoNotFit}
use Rattle.back_lowering.specs.ControlWords.{control_words}
use Rattle.back_words.specs.Start.{laid_symbols}
use Rattle.back_words.specs.Uses.{program_uses}
use Rattle.back_words.specs.Variables.{low_words}
use Rattle.back_words.specs.Words.{further_words}
use Rattle.back_uses.specs.declared.used.UsedNames.{UsedNames}
use Rattle.back_uses.specs.Used.{AreUsed}
use Rattle.back_lowered.specs.declared.variables.Variables.{Variables}
use Rattle.back_lowered.specs.TooLarge.{ObjectsTooLarge, FurtherTooLarge, IsTooLarge}
use Rattle.back_lowered.specs.Variables.{HasVariables}

module _ (names : List (List ℕ)) (program : FlatProgram) (used : UsedNames) (are : AreUsed (program_uses names program) used)
    (v : Variables) (has : HasVariables names program v)
    (low : List ℕ) (low_is : low ≡ replicate control_words 0 ++ replicate v.count unbound_word) where
  low_words_are : low ≡ low_words names program
  low_words_are = low_is ∙ ap (λ n. replicate control_words 0 ++ replicate n unbound_word) has.count

  pub objects_too_large : ObjectsTooLarge names program low used.symbols → IsTooLarge names program
  objects_too_large h =
      inr (inl (subst (λ w. ObjectsTooLarge names program (low_words names program) w) are.symbols
      (subst (λ l. ObjectsTooLarge names program l used.symbols) low_words_are h)))

  pub further_too_large : (objects : StaticData) → IsStaticData names (tables program) low [] objects
      → (symbols : List ℕ) → symbols ≡ laid_symbols names objects.arena.symbols → (address : ℕ) → address ≡ 4 * length objects.arena.words
      → DoNotFit address (further_words program symbols address) ⊎ (2 ^ 24 < length objects.arena.words + length (further_words program symbols address))
      → IsTooLarge names program
  further_too_large objects start symbols are_symbols address there h =
      let large : FurtherTooLarge names program objects =
      subst
      (λ s. DoNotFit (4 * length objects.arena.words) (further_words program s (4 * length objects.arena.words))
      ⊎ (2 ^ 24 < length objects.arena.words + length (further_words program s (4 * length objects.arena.words))))
      are_symbols
      (subst
      (λ a. DoNotFit a (further_words program symbols a) ⊎ (2 ^ 24 < length objects.arena.words + length (further_words program symbols a)))
      there h) in
      inr (inr (objects, subst (λ l. IsStaticData names (tables program) l [] objects) low_words_are start, large))
