-- An integer, a character and nil have their words, wherever they are laid.
use Rattle.std.proofs.Common.{◌≡◌, ℕ, ℤ, true, List, Some, None, sym, ◌∙◌, ap}
use Rattle.std.specs.Prelude.{if◌then◌else◌}
use Rattle.base.specs.Data as datum
use Rattle.lang_meaning.specs.Values.{integer, in_range}
use Rattle.lang_meaning.specs.Literals.{lay_content}
use Rattle.mid_arena.specs.Tags.{integer_word}
use Rattle.mid_start.specs.declared.words.ArenaWords.{ArenaWords}
use Rattle.mid_start.specs.Laying.{Lays}
use Rattle.mid_start.proofs.Made.{nothing_laid}

pub integer_laid :
    (names : List (List ℕ)) (words : ArenaWords) (i : ℤ) (w : ℕ) → in_range i ≡ true → w ≡ integer_word i
    → Lays names (lay_content names (datum.integer i)) words words w
integer_laid names words i w range e = record {
  there = λ program places store h.
      nothing_laid names program places store words (integer i) w h
      (ap (λ b. if b then Some (integer_word i) else None) range ∙ ap (λ n. Some n) (sym e));
}
