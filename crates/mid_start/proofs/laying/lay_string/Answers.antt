-- The string's words stand behind the others.
use Rattle.std.proofs.Common.{◌++◌, length, refl, ap, ◌∙◌, subst, length-append, arith}
use Rattle.mid_arena.specs.Tags.{string_header}
use Rattle.mid_arena.specs.Layouts.{AreBytes}
use Rattle.mid_start.specs.Contents.{text_words}
use Rattle.mid_start.proofs.Made.{text_count, string_laid}
use Rattle.mid_start.proofs.laying.lay_string.Goals as goal

pub push_text-requires : goal.push_text-requires
push_text-requires c = omega (arith, c.requires.room, ap (λ vs. length vs) c.as_slice.ensures)

pub returns-clause-count : goal.returns-clause-count
returns-clause-count c =
    omega (
      arith,
      ap (λ vs. length vs) (c.in_ok-push_text.ensures.ok ∙ ap (λ bytes. c.args.words.now.words ++ text_words string_header bytes) c.as_slice.ensures),
      length-append c.args.words.now.words (text_words string_header c.args.bytes.now),
      text_count string_header c.args.bytes.now,
    )

pub returns-clause-lays : goal.returns-clause-lays
returns-clause-lays c = λ names.
    string_laid names c.args.words.now _ c.args.bytes.now _
    (record {
      first = refl;
      symbols = refl;
      words = c.in_ok-push_text.ensures.ok ∙ ap (λ bytes. c.args.words.now.words ++ text_words string_header bytes) c.as_slice.ensures;
    })
    (subst AreBytes c.as_slice.ensures c.push_text.ensures.bytes) (omega (arith, c.end_address-word.ensures))
