-- What a datum lays is what its parts lay, and then the datum.
use Rattle.std.proofs.Common.{◌≡◌, ◌∷◌, [], length, true, refl, sym, ◌∙◌, ap, subst, rules, length-append, arith}
use Rattle.std.specs.Prelude.{IfOk}
use Rattle.std.proofs.lemmas.Result.{IfOk-weaker, on_ok_weaker}
use Rattle.base.specs.Data as datum
use Rattle.base.specs.Data.{items_of}
use Rattle.base.specs.WellFormedData.{good_at}
use Rattle.base.specs.model.DataView.{tail_of}
use Rattle.base.specs.model.DataSizes.{item_in_smaller}
use Rattle.base.specs.declared.datum.Kind.TheVariants as kind
use Rattle.lang_meaning.specs.Values.{in_range}
use Rattle.lang_meaning.specs.Literals as literals
use Rattle.mid_arena.specs.Tags.{integer_word}
use Rattle.mid_start.specs.Laying.{Lays}
use Rattle.mid_start.proofs.LaidWords.{grown_both}
use Rattle.mid_start.proofs.Lists.{beginning_same}
use Rattle.mid_start.proofs.Made.{vector_words, vector_laid}
use Rattle.mid_start.proofs.Data.{item_more, items_done, sizes_at, list_laid}
use Rattle.mid_start.proofs.Parts.{datum_is, some_size, integer_in_range, symbol_below, elements_good, items_good}
use Rattle.mid_start.proofs.Parts.{tail_good, string_size, vector_size, list_size, dotted_good, dotted_size, number_back}
use Rattle.mid_start.proofs.Atoms.{integer_laid}
use Rattle.mid_start.proofs.laying.+lay.Goals as goal

pub lay_item-lay_symbol-requires-clause-named : goal.lay_item-lay_symbol-requires-clause-named
lay_item-lay_symbol-requires-clause-named t c =
    let is = datum_is c.datum.inside.place c.datum.inside.kind (kind.Sym c.in-Sym.symbol) c.args.datum.now c.datum.view_is c.in-Sym.is in
    symbol_below (length c.args.names.now) c.datum.inside.place c.args.datum.now c.requires.good c.in-Sym.symbol is

pub lay_item-lay_symbol-requires-clause-room : goal.lay_item-lay_symbol-requires-clause-room
lay_item-lay_symbol-requires-clause-room t c = omega (arith, c.requires.room, some_size c.args.datum.now)

pub lay_item-lay_string-requires : goal.lay_item-lay_string-requires
lay_item-lay_string-requires t c =
    let is = datum_is c.datum.inside.place c.datum.inside.kind (kind.Str c.in-Str.bytes) c.args.datum.now c.datum.view_is c.in-Str.is in
    record { room = omega (arith, c.requires.room, string_size c.datum.inside.place c.args.datum.now c.in-Str.bytes is) }

pub lay_item-lay_vector-requires : goal.lay_item-lay_vector-requires
lay_item-lay_vector-requires t c =
    let is = datum_is c.datum.inside.place c.datum.inside.kind (kind.Vector c.in-Vector.items) c.args.datum.now c.datum.view_is c.in-Vector.is in (
      search rules,
      (
        elements_good (length c.args.names.now) c.datum.inside.place c.args.datum.now c.requires.good c.in-Vector.items is,
        omega (arith, c.requires.room, vector_size c.datum.inside.place c.args.datum.now c.in-Vector.items is),
      ),
    )

pub lay_item-lay_list-requires : goal.lay_item-lay_list-requires
lay_item-lay_list-requires t c =
    let is = datum_is c.datum.inside.place c.datum.inside.kind (kind.List c.in-List.items c.in-List.tail) c.args.datum.now c.datum.view_is c.in-List.is in (
      search rules,
      (
        items_good (length c.args.names.now) c.datum.inside.place c.args.datum.now c.requires.good c.in-List.items (tail_of c.in-List.tail) is,
        (
          tail_good (length c.args.names.now) c.datum.inside.place c.args.datum.now c.requires.good c.in-List.items (tail_of c.in-List.tail) is,
          omega (arith, c.requires.room, list_size c.datum.inside.place c.args.datum.now c.in-List.items (tail_of c.in-List.tail) is),
        ),
      ),
    )

pub lay_item-returns-in-Int-clause-count : goal.lay_item-returns-in-Int-clause-count
lay_item-returns-in-Int-clause-count t c = omega (arith, some_size c.args.datum.now)

pub lay_item-returns-in-Int-clause-lays : goal.lay_item-returns-in-Int-clause-lays
lay_item-returns-in-Int-clause-lays t c =
    let is = datum_is c.datum.inside.place c.datum.inside.kind (kind.Int c.in-Int.number) c.args.datum.now c.datum.view_is c.in-Int.is in
    let range : in_range c.in-Int.number ≡ true =
    integer_in_range (length c.args.names.now) c.datum.inside.place c.args.datum.now c.requires.good c.in-Int.number is in
    subst (λ d. Lays c.args.names.now (literals.lay c.args.names.now d) c.args.words.now c.args.words.now c.word_of_integer.result) (sym is)
    (integer_laid c.args.names.now c.args.words.now c.in-Int.number c.word_of_integer.result
    range (c.word_of_integer.ensures ∙ ap integer_word (number_back c.in-Int.number range)))

pub lay_item-returns-in-Char-clause-count : goal.lay_item-returns-in-Char-clause-count
lay_item-returns-in-Char-clause-count t c = omega (arith, some_size c.args.datum.now)

pub lay_item-returns-in-Sym-clause-count : goal.lay_item-returns-in-Sym-clause-count
lay_item-returns-in-Sym-clause-count t c = on_ok_weaker c.lay_symbol.result (λ h. omega (arith, h, some_size c.args.datum.now)) c.lay_symbol.ensures.count

pub lay_item-returns-in-Str-clause-count : goal.lay_item-returns-in-Str-clause-count
lay_item-returns-in-Str-clause-count t c =
    let is = datum_is c.datum.inside.place c.datum.inside.kind (kind.Str c.in-Str.bytes) c.args.datum.now c.datum.view_is c.in-Str.is in
    on_ok_weaker c.lay_string.result (λ h. omega (arith, h, string_size c.datum.inside.place c.args.datum.now c.in-Str.bytes is)) c.lay_string.ensures.count

pub lay_item-returns-in-Str-clause-lays : goal.lay_item-returns-in-Str-clause-lays
lay_item-returns-in-Str-clause-lays t c =
    let is = datum_is c.datum.inside.place c.datum.inside.kind (kind.Str c.in-Str.bytes) c.args.datum.now c.datum.view_is c.in-Str.is in
    subst (λ d. IfOk c.lay_string.result (λ w. Lays c.args.names.now (literals.lay c.args.names.now d) c.args.words.now c.lay_string.new.words w)) (sym is)
    (IfOk-weaker c.lay_string.result _ _ (λ w h. h c.args.names.now) c.lay_string.ensures.lays)

pub lay_item-returns-in-Vector-clause-count : goal.lay_item-returns-in-Vector-clause-count
lay_item-returns-in-Vector-clause-count t c =
    let is = datum_is c.datum.inside.place c.datum.inside.kind (kind.Vector c.in-Vector.items) c.args.datum.now c.datum.view_is c.in-Vector.is in
    on_ok_weaker c.lay_vector.result (λ h. omega (arith, h, vector_size c.datum.inside.place c.args.datum.now c.in-Vector.items is)) c.lay_vector.ensures.count

pub lay_item-returns-in-Nil-clause-count : goal.lay_item-returns-in-Nil-clause-count
lay_item-returns-in-Nil-clause-count t c = omega (arith, some_size c.args.datum.now)

pub lay_item-returns-in-List-clause-count : goal.lay_item-returns-in-List-clause-count
lay_item-returns-in-List-clause-count t c =
    let is = datum_is c.datum.inside.place c.datum.inside.kind (kind.List c.in-List.items c.in-List.tail) c.args.datum.now c.datum.view_is c.in-List.is in
    on_ok_weaker c.lay_list.result
    (λ h. omega (arith, h, list_size c.datum.inside.place c.args.datum.now c.in-List.items (tail_of c.in-List.tail) is)) c.lay_list.ensures.count

pub lay_items-lay_item-requires : goal.lay_items-lay_item-requires
lay_items-lay_item-requires t c =
    let smaller = item_in_smaller c.args.items.now c.loop-at.at c.in-Some.item.now c.in-Some.ensures in (
      search (rules, smaller),
      (
        good_at (length c.args.names.now) c.args.items.now c.loop-at.at c.in-Some.item.now c.requires.good c.in-Some.ensures,
        omega (
          arith,
          c.requires.room,
          c.loop-at.invariant.count,
          c.loop-at.invariant.grown.first,
          sizes_at c.args.items.now c.loop-at.at c.in-Some.item.now c.in-Some.ensures,
        ),
      ),
    )

pub lay_items-returns-in_err-word-clause-grown : goal.lay_items-returns-in_err-word-clause-grown
lay_items-returns-in_err-word-clause-grown t c =
    grown_both c.args.words.now c.loop-at.words c.lay_item.new.words c.loop-at.invariant.grown c.lay_item.ensures.grown

pub lay_items-returns-in_err-push-clause-grown : goal.lay_items-returns-in_err-push-clause-grown
lay_items-returns-in_err-push-clause-grown t c =
    grown_both c.args.words.now c.loop-at.words c.lay_item.new.words c.loop-at.invariant.grown c.lay_item.ensures.grown

pub lay_items-loop-at-preserved : goal.lay_items-loop-at-preserved
lay_items-loop-at-preserved t c = record {
  grown = grown_both c.args.words.now c.loop-at.words c.lay_item.new.words c.loop-at.invariant.grown c.in_ok-word.ensures.grown;
  each = omega (arith, ap (λ ws. length ws) c.in_ok-push.ensures.ok, length-append c.loop-at.laid (c.in_ok-word.word ∷ []), c.loop-at.invariant.each);
  count = omega (arith, c.loop-at.invariant.count, c.in_ok-word.ensures.count, sizes_at c.args.items.now c.loop-at.at c.in-Some.item.now c.in-Some.ensures);
  laid =
      rw c.in_ok-push.ensures.ok
      (item_more c.args.names.now c.args.items.now c.loop-at.at c.in-Some.item.now c.args.words.now c.loop-at.words c.lay_item.new.words c.loop-at.laid
      c.in_ok-word.word c.in-Some.ensures c.loop-at.invariant.laid c.in_ok-word.ensures.lays);
}

pub lay_items-returns-clause-lays : goal.lay_items-returns-clause-lays
lay_items-returns-clause-lays t c =
    items_done c.args.names.now c.args.items.now c.loop-at.at c.args.words.now c.loop-at.words c.loop-at.laid
    (omega (arith, c.loop-at-test.false, c.len-at-end.ensures)) c.loop-at.invariant.laid

pub lay_list-returns-in_err-end-clause-grown : goal.lay_list-returns-in_err-end-clause-grown
lay_list-returns-in_err-end-clause-grown t c =
    grown_both c.args.words.now c.lay_items.new.words c.lay_tail.new.words c.lay_items.ensures.grown c.lay_tail.ensures.grown

pub lay_list-returns-clause-grown : goal.lay_list-returns-clause-grown
lay_list-returns-clause-grown t c =
    grown_both c.args.words.now c.lay_tail.new.words c.lay_conses.new.words
    (grown_both c.args.words.now c.lay_items.new.words c.lay_tail.new.words c.lay_items.ensures.grown c.lay_tail.ensures.grown) c.lay_conses.ensures.grown

pub lay_list-returns-clause-lays : goal.lay_list-returns-clause-lays
lay_list-returns-clause-lays t c =
    IfOk-weaker c.lay_conses.result _ _
    (λ w h.
    list_laid c.args.names.now c.args.items.now (tail_of c.args.tail.now) c.args.words.now c.lay_items.new.words c.lay_tail.new.words c.lay_conses.new.words
    c.in_ok-laid.laid c.in_ok-end.end w c.in_ok-laid.ensures.lays c.in_ok-end.ensures.lays h)
    c.lay_conses.ensures.lays

pub lay_tail-lay_item-requires : goal.lay_tail-lay_item-requires
lay_tail-lay_item-requires t c =
    let is : tail_of c.args.tail.now ≡ datum.dotted c.deref.result.now = ap tail_of c.in-Some.is ∙ ap datum.dotted (sym c.deref.ensures) in (
      search (rules, is),
      (
        dotted_good (length c.args.names.now) (tail_of c.args.tail.now) c.deref.result.now is c.requires.good,
        omega (arith, c.requires.room, dotted_size (tail_of c.args.tail.now) c.deref.result.now is),
      ),
    )

pub lay_tail-returns-in-Some-clause-count : goal.lay_tail-returns-in-Some-clause-count
lay_tail-returns-in-Some-clause-count t c =
    let is : tail_of c.args.tail.now ≡ datum.dotted c.deref.result.now = ap tail_of c.in-Some.is ∙ ap datum.dotted (sym c.deref.ensures) in
    on_ok_weaker c.lay_item.result (λ h. omega (arith, h, dotted_size (tail_of c.args.tail.now) c.deref.result.now is)) c.lay_item.ensures.count

pub lay_vector-returns-in_err-push_vector-clause-grown : goal.lay_vector-returns-in_err-push_vector-clause-grown
lay_vector-returns-in_err-push_vector-clause-grown t c =
    grown_both c.args.words.now c.lay_items.new.words _ c.lay_items.ensures.grown
    (record { first = refl; words = c.push_vector.ensures.grown; symbols = beginning_same c.lay_items.new.words.symbols })

pub lay_vector-returns-clause-grown : goal.lay_vector-returns-clause-grown
lay_vector-returns-clause-grown t c =
    grown_both c.args.words.now c.lay_items.new.words _ c.lay_items.ensures.grown
    (record { first = refl; words = c.push_vector.ensures.grown; symbols = beginning_same c.lay_items.new.words.symbols })

pub lay_vector-returns-clause-count : goal.lay_vector-returns-clause-count
lay_vector-returns-clause-count t c =
    omega (
      arith,
      ap (λ ws. length ws) c.in_ok-push_vector.ensures.ok,
      length-append c.lay_items.new.words.words (vector_words c.in_ok-elements.elements),
      c.in_ok-elements.ensures.each,
      c.in_ok-elements.ensures.count,
    )

pub lay_vector-returns-clause-lays : goal.lay_vector-returns-clause-lays
lay_vector-returns-clause-lays t c =
    vector_laid c.args.names.now c.args.words.now c.lay_items.new.words _ (items_of c.args.items.now) c.in_ok-elements.elements _ c.in_ok-elements.ensures.lays
    (record { first = refl; symbols = refl; words = c.in_ok-push_vector.ensures.ok }) (omega (arith, c.end_address-word.ensures))
