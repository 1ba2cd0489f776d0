-- Part by part.
use Rattle.std.proofs.Common.{◌≡◌, ◌+◌, ◌*◌, ◌≤◌, ◌++◌, length, sym, ◌∙◌, ap, subst, length-append, arith}
use Rattle.std.proofs.lemmas.Option.{slice_get_within}
use Rattle.lang_meaning.specs.Recipes.{in_turn, function_recipe, literal_recipe}
use Rattle.mid_start.specs.Recipes.{slots_recipe}
use Rattle.mid_start.specs.Making.{IsWord, IsSlot, EachStandsFor, Makes}
use Rattle.mid_start.specs.Settling.{SlotsAreCounted, ClassesSettle}
use Rattle.mid_start.proofs.Chain.{enough_classes, starts}
use Rattle.mid_start.proofs.FixedFront.{fixed_count}
use Rattle.mid_start.proofs.Steps.{classes_within, all_classes_within, literal_words_within, class_words_within}
use Rattle.mid_start.proofs.static_data.lay_all.Goals as goal

pub lay_literals-requires-clause-room : goal.lay_literals-requires-clause-room
lay_literals-requires-clause-room c =
    omega (
      arith,
      c.requires.size,
      c.requires.low,
      literal_words_within c.args.literals.now,
      class_words_within c.args.classes.now,
      c.new-words.ensures.first,
      ap (λ xs. length xs) c.new-words.ensures.words,
      c.in_ok-function_words.ensures.within.first,
      c.in_ok-function_words.ensures.within.count,
    )

pub lay_slots-requires-clause-room : goal.lay_slots-requires-clause-room
lay_slots-requires-clause-room c =
    omega (
      arith,
      c.requires.size,
      c.requires.low,
      literal_words_within c.args.literals.now,
      class_words_within c.args.classes.now,
      c.new-words.ensures.first,
      ap (λ xs. length xs) c.new-words.ensures.words,
      c.in_ok-function_words.ensures.within.first,
      c.in_ok-function_words.ensures.within.count,
      c.in_ok-literal_words.ensures.within.first,
      c.in_ok-literal_words.ensures.within.count,
    )

pub lay_name-requires-clause-room : goal.lay_name-requires-clause-room
lay_name-requires-clause-room c =
    omega (
      arith,
      c.requires.size,
      c.requires.low,
      literal_words_within c.args.literals.now,
      class_words_within c.args.classes.now,
      c.new-words.ensures.first,
      ap (λ xs. length xs) c.new-words.ensures.words,
      c.in_ok-function_words.ensures.within.first,
      c.in_ok-function_words.ensures.within.count,
      c.in_ok-literal_words.ensures.within.first,
      c.in_ok-literal_words.ensures.within.count,
      c.in_ok-slots.ensures.within.first,
      c.in_ok-slots.ensures.within.count,
    )

pub lay_input-requires : goal.lay_input-requires
lay_input-requires c =
    omega (
      arith,
      c.requires.size,
      c.requires.low,
      literal_words_within c.args.literals.now,
      class_words_within c.args.classes.now,
      c.new-words.ensures.first,
      ap (λ xs. length xs) c.new-words.ensures.words,
      c.in_ok-function_words.ensures.within.first,
      c.in_ok-function_words.ensures.within.count,
      c.in_ok-literal_words.ensures.within.first,
      c.in_ok-literal_words.ensures.within.count,
      c.in_ok-slots.ensures.within.first,
      c.in_ok-slots.ensures.within.count,
      c.in_ok-truth.ensures.within.first,
      c.in_ok-truth.ensures.within.count,
    )

pub lay_output-requires : goal.lay_output-requires
lay_output-requires c =
    omega (
      arith,
      c.requires.size,
      c.requires.low,
      literal_words_within c.args.literals.now,
      class_words_within c.args.classes.now,
      c.new-words.ensures.first,
      ap (λ xs. length xs) c.new-words.ensures.words,
      c.in_ok-function_words.ensures.within.first,
      c.in_ok-function_words.ensures.within.count,
      c.in_ok-literal_words.ensures.within.first,
      c.in_ok-literal_words.ensures.within.count,
      c.in_ok-slots.ensures.within.first,
      c.in_ok-slots.ensures.within.count,
      c.in_ok-truth.ensures.within.first,
      c.in_ok-truth.ensures.within.count,
      c.in_ok-input.ensures.within.first,
      c.in_ok-input.ensures.within.count,
    )

pub lay_classes-requires-clause-room : goal.lay_classes-requires-clause-room
lay_classes-requires-clause-room c =
    omega (
      arith,
      c.requires.size,
      c.requires.low,
      literal_words_within c.args.literals.now,
      class_words_within c.args.classes.now,
      c.new-words.ensures.first,
      ap (λ xs. length xs) c.new-words.ensures.words,
      c.in_ok-function_words.ensures.within.first,
      c.in_ok-function_words.ensures.within.count,
      c.in_ok-literal_words.ensures.within.first,
      c.in_ok-literal_words.ensures.within.count,
      c.in_ok-slots.ensures.within.first,
      c.in_ok-slots.ensures.within.count,
      c.in_ok-truth.ensures.within.first,
      c.in_ok-truth.ensures.within.count,
      c.in_ok-input.ensures.within.first,
      c.in_ok-input.ensures.within.count,
      c.in_ok-output.ensures.within.first,
      c.in_ok-output.ensures.within.count,
    )

pub lay_slots-requires-clause-fits : goal.lay_slots-requires-clause-fits
lay_slots-requires-clause-fits c = λ class row i s here there. (c.requires.fits.class_rows class row here).slots i s there

pub lay_name-requires-clause-named : goal.lay_name-requires-clause-named
lay_name-requires-clause-named c = slice_get_within c.args.names.now c.args.true_name.0 _ c.requires.fits.true_text

pub lay_classes-requires-clause-many : goal.lay_classes-requires-clause-many
lay_classes-requires-clause-many c =
    let within = classes_within c.args.classes.now in
    omega (arith, within, all_classes_within c.args.classes.now, c.requires.size)

pub fixed_words-requires : goal.fixed_words-requires
fixed_words-requires c =
    let enough = enough_classes c.args.classes.now c.requires.fits.built_in in
    omega (arith, enough, c.in_ok-class_words.ensures.many)

pub returns-clause-start : goal.returns-clause-start
returns-clause-start c program same_classes same_functions same_literals =
    let low_count = ap (λ n. 184 + 4 * n) c.len.ensures in
    starts c.args.names.now program c.args.true_name c.new-words.result c.lay_functions.new.words c.lay_literals.new.words c.lay_slots.new.words c.lay_name.new.words
    c.lay_input.new.words c.lay_output.new.words c.lay_classes.new.words c.in_ok-arena.arena
    c.in_ok-function_words.function_words c.in_ok-literal_words.literal_words c.in_ok-class_words.class_words c.in_ok-slots.slots c.in_ok-truth.truth c.in_ok-input.input c.in_ok-output.output c.args.low
    (subst (λ xs. 34 ≤ length xs) (sym same_classes) (enough_classes c.args.classes.now c.requires.fits.built_in)) c.requires.fits.true_text c.requires.fits.no_nil
    (c.new-words.ensures.first ∙ low_count) c.new-words.ensures.symbols
    (c.in_ok-class_words.ensures.within.first ∙ c.in_ok-output.ensures.within.first ∙ c.in_ok-input.ensures.within.first ∙ c.in_ok-truth.ensures.within.first
    ∙ c.in_ok-slots.ensures.within.first ∙ c.in_ok-literal_words.ensures.within.first ∙ c.in_ok-function_words.ensures.within.first ∙ c.new-words.ensures.first
    ∙ low_count)
    (subst (λ xs. Makes c.args.names.now (EachStandsFor IsWord) (in_turn function_recipe xs) c.new-words.result c.lay_functions.new.words c.in_ok-function_words.function_words) (sym same_functions)
    (c.in_ok-function_words.ensures.made c.args.names.now))
    (subst (λ xs. Makes c.args.names.now (EachStandsFor IsWord) (in_turn (literal_recipe c.args.names.now) xs) c.lay_functions.new.words c.lay_literals.new.words c.in_ok-literal_words.literal_words)
    (sym same_literals)
    c.in_ok-literal_words.ensures.made)
    (subst (λ xs. Makes c.args.names.now (EachStandsFor (EachStandsFor IsSlot)) (in_turn (slots_recipe c.args.names.now) xs) c.lay_literals.new.words c.lay_slots.new.words c.in_ok-slots.slots) (sym same_classes)
    c.in_ok-slots.ensures.made)
    (subst (λ xs. SlotsAreCounted xs c.in_ok-slots.slots) (sym same_classes) c.in_ok-slots.ensures.counted)
    c.in_ok-truth.ensures.made (c.in_ok-input.ensures.settles c.args.names.now program) (c.in_ok-output.ensures.settles c.args.names.now program)
    (subst (λ xs. ClassesSettle c.args.names.now program c.in_ok-truth.truth c.in_ok-slots.slots c.lay_output.new.words c.lay_classes.new.words (length xs) c.in_ok-class_words.class_words)
    (sym same_classes)
    (c.in_ok-class_words.ensures.settle program same_classes))
    c.in_ok-arena.ensures.first
    (c.in_ok-arena.ensures.words ∙ ap (λ ws. ws ++ c.args.low ++ c.lay_classes.new.words.words) c.in_ok-fixed.ensures)
    c.in_ok-arena.ensures.symbols

pub returns-clause-count : goal.returns-clause-count
returns-clause-count c =
    let enough = enough_classes c.args.classes.now c.requires.fits.built_in in
    let many : 34 ≤ length c.in_ok-class_words.class_words = omega (arith, enough, c.in_ok-class_words.ensures.many) in
    let fixed : length c.in_ok-fixed.fixed ≡ 46 =
    ap (λ xs. length xs) c.in_ok-fixed.ensures ∙ fixed_count c.in_ok-class_words.class_words c.in_ok-input.input c.in_ok-output.output c.in_ok-truth.truth many in
    omega (
      arith,
      literal_words_within c.args.literals.now,
      class_words_within c.args.classes.now,
      ap (λ xs. length xs) c.in_ok-arena.ensures.words,
      length-append (c.in_ok-fixed.fixed ++ c.args.low) c.lay_classes.new.words.words,
      length-append c.in_ok-fixed.fixed c.args.low,
      fixed,
      ap (λ xs. length xs) c.new-words.ensures.words,
      c.in_ok-function_words.ensures.within.count,
      c.in_ok-literal_words.ensures.within.count,
      c.in_ok-slots.ensures.within.count,
      c.in_ok-truth.ensures.within.count,
      c.in_ok-input.ensures.within.count,
      c.in_ok-output.ensures.within.count,
      c.in_ok-class_words.ensures.within.count,
    )

pub returns-clause-within : goal.returns-clause-within
returns-clause-within c =
    let enough = enough_classes c.args.classes.now c.requires.fits.built_in in
    let many : 34 ≤ length c.in_ok-class_words.class_words = omega (arith, enough, c.in_ok-class_words.ensures.many) in
    let fixed : length c.in_ok-fixed.fixed ≡ 46 =
    ap (λ xs. length xs) c.in_ok-fixed.ensures ∙ fixed_count c.in_ok-class_words.class_words c.in_ok-input.input c.in_ok-output.output c.in_ok-truth.truth many in
    omega (
      arith,
      ap (λ xs. length xs) c.in_ok-arena.ensures.words,
      length-append (c.in_ok-fixed.fixed ++ c.args.low) c.lay_classes.new.words.words,
      length-append c.in_ok-fixed.fixed c.args.low,
      fixed,
      ap (λ xs. length xs) c.new-words.ensures.words,
      c.in_ok-function_words.ensures.within.count,
      c.in_ok-literal_words.ensures.within.count,
      c.in_ok-slots.ensures.within.count,
      c.in_ok-truth.ensures.within.count,
      c.in_ok-input.ensures.within.count,
      c.in_ok-output.ensures.within.count,
      c.in_ok-class_words.ensures.within.count,
    )
