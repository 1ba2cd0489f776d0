-- The word of a value with which a run ended, told by its lowest bits.
use Rattle.std.proofs.Common.{◌≡◌, ◌⊎◌, inl, inr, ℕ, zero, suc, ◌<◌, ◌≤◌, List, refl, sym, arith}
use Rattle.std.specs.Prelude.{◌%◌}
use Rattle.lang_meaning.specs.declared.program.ProgramRows.{ProgramRows}
use Rattle.lang_meaning.specs.Meaning.{Meant}
use Rattle.lang_meaning.specs.Values.{Value, integer, character, symbol, nil, object}
use Rattle.flat_language.specs.Flatten.{flat_program}
use Rattle.flat_language.specs.FlatNodes.{tables}
use Rattle.mid_arena.specs.Tags.{nil_word, tag_of}
use Rattle.mid_arena.proofs.Arguments.{integer_word_is, character_word_is, object_there, tag_told}
use Rattle.mid_arena.proofs.Keeping.{tag_low, tag_some}
use Rattle.rv_machine.specs.Run.{Ended}
use Rattle.back_build.specs.declared.building.Built.{Built}
use Rattle.back_build.specs.Means.{HasWord}
use Rattle.top_main.specs.Images.{IsWordOf}

-- a tag of an object
one_or_two : (tag : ℕ) → 1 ≤ tag → tag < 3 → (tag ≡ 1) ⊎ (tag ≡ 2)
one_or_two zero some low = absurd (omega (arith, some))
one_or_two (suc zero) some low = inl refl
one_or_two (suc (suc zero)) some low = inr refl
one_or_two (suc (suc (suc n))) some low = absurd (omega (arith, low))

module _ (names : List (List ℕ)) (program : ProgramRows) (built : Built) (m : Meant) (x : Ended) where
  pub word_is : (v : Value) (word : ℕ) → HasWord names program built.symbols m x v word → IsWordOf word v
  word_is (integer n) word h = (integer_word_is h.places n word h.of_value).1
  word_is (character c) word h = (character_word_is h.places c word h.of_value).1
  word_is (symbol s) word h = tag_told names (tables (flat_program program)) h.places h.state h.arena h.represents (symbol s) word h.of_value
  word_is nil word h = let e : nil_word ≡ word = cc h.of_value in sym e
  word_is (object i) word h =
      let there = object_there names (tables (flat_program program)) h.places h.state h.arena h.represents i word h.of_value in
      let low = tag_low there.one in
      let some = tag_some there.one in
      let is : word % 4 ≡ tag_of there.one = omega (arith, there.word, there.spot_stands.aligned, low) in
      one_or_two (word % 4) (omega (arith, is, some)) (omega (arith, is, low))
