use Rattle.std.proofs.Common.{◌/◌, refl, subst, sym}
use Rattle.base.specs.declared.datum.Symbol.TheVariants.{Fresh}
use Rattle.mid_taken.specs.declared.parts.Part.TheVariants.{Sym}
use Rattle.mid_taken.specs.Parts.{IsPartAt}
use Rattle.mid_taken.proofs.Found.{string_told_at, vector_told_at, fresh_told_at, other_told_at}
use Rattle.mid_taken.proofs.parts.new_object_part.Goals as goal

pub returns-then-header-eq-STRING : goal.returns-then-header-eq-STRING
returns-then-header-eq-STRING c =
    string_told_at c.args.from.now c.args.word (c.args.word / 4) c.word_in-header.result c.word_in-second.result c.requires.tag c.requires.no_symbol refl
    c.word_in-header.ensures c.word_in-second.ensures c.if-header-eq-STRING.true

pub returns-then-header-eq-VECTOR : goal.returns-then-header-eq-VECTOR
returns-then-header-eq-VECTOR c =
    vector_told_at c.args.from.now c.args.word (c.args.word / 4) c.word_in-header.result c.word_in-second.result c.requires.tag c.requires.no_symbol refl
    c.word_in-header.ensures c.word_in-second.ensures c.if-header-eq-VECTOR.true

pub returns-then-header-eq-FRESH : goal.returns-then-header-eq-FRESH
returns-then-header-eq-FRESH c =
    subst (λ serial. IsPartAt c.args.from.now c.args.word (Sym (Fresh c.args.from.now.expansion serial))) (sym c.from.ensures)
    (fresh_told_at c.args.from.now c.args.word (c.args.word / 4) c.word_in-header.result c.word_in-second.result c.requires.tag c.requires.no_symbol refl
    c.word_in-header.ensures c.word_in-second.ensures c.if-header-eq-FRESH.true)

pub returns-else-header-eq-FRESH : goal.returns-else-header-eq-FRESH
returns-else-header-eq-FRESH c =
    other_told_at c.args.from.now c.args.word (c.args.word / 4) c.word_in-header.result c.word_in-second.result c.requires.tag c.requires.no_symbol refl
    c.word_in-header.ensures c.word_in-second.ensures c.if-header-eq-STRING.false c.if-header-eq-VECTOR.false c.if-header-eq-FRESH.false
