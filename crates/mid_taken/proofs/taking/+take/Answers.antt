-- What a word stands for is what its part stands for; a vector and a list are taken part by part.
use Rattle.std.proofs.Common.{◌+◌, ◌-◌, refl, sym, ap, ◌∙◌, subst, rules, arith}
use Rattle.std.proofs.lemmas.Result.{err_from_is_err_and, IfOk-weaker, IfErr-weaker, on_ok_weaker}
use Rattle.base.specs.declared.reason.Reason.TheVariants.{ExpansionNotForm, ExpansionTooLarge}
use Rattle.base.specs.Data.{item, items_of, dotted}
use Rattle.base.specs.Data as datum
use Rattle.mid_start.proofs.Parts.{number_back}
use Rattle.mid_taken.specs.declared.parts.Part.TheVariants.{Int, Char, Sym, Str, Vector, Nil, Cons, NoDatum}
use Rattle.mid_taken.specs.Taking.{PartFails}
use Rattle.mid_taken.proofs.Passed.{ElementsPassed, none_passed, element_passed, element_fails, ChainPassed, chain_begins, chain_goes_on, chain_fails}
use Rattle.mid_taken.proofs.Takes.{int_taken, char_taken, symbol_taken, string_taken, nil_taken, no_datum_fails, vector_too_deep, list_too_deep}
use Rattle.mid_taken.proofs.Takes.{vector_taken, vector_fails, list_taken, dotted_taken, item_fails, end_fails, word_taken, word_fails}
use Rattle.mid_taken.proofs.Takes.{stops_weaker, stops_refused, left_is, taken_as, fails_as, taken_of, fails_of}
use Rattle.mid_taken.proofs.taking.+take.Goals as goal

-- ---- words

pub take_word-take_part-requires : goal.take_word-take_part-requires
take_word-take_part-requires t c = search rules

pub take_word-returns-clause-takes : goal.take_word-returns-clause-takes
take_word-returns-clause-takes t c =
    IfOk-weaker c.take_part.result _ _
    (λ d h. word_taken c.args.from.now c.args.word c.args.deep c.args.left.now c.part_of-part.result d c.take_part.new.left c.part_of-part.ensures h)
    c.take_part.ensures.takes

pub take_word-returns-clause-stops : goal.take_word-returns-clause-stops
take_word-returns-clause-stops t c =
    IfErr-weaker c.take_part.result _ _
    (λ stop h.
    stops_weaker c.args.from.now.place _ _
    (λ r f. word_fails c.args.from.now c.args.word c.args.deep c.args.left.now c.part_of-part.result r c.part_of-part.ensures f) stop h)
    c.take_part.ensures.stops

pub take_word-returns-clause-less : goal.take_word-returns-clause-less
take_word-returns-clause-less t c = c.take_part.ensures.less

-- ---- vectors

pub take_vector-returns-then-deep-eq0-clause-stops : goal.take_vector-returns-then-deep-eq0-clause-stops
take_vector-returns-then-deep-eq0-clause-stops t c =
    stops_refused c.args.from.now.place
    (λ r. PartFails c.args.from.now (Vector c.args.at c.args.count) c.args.deep (1 + c.args.left.now) r) ExpansionTooLarge c.refused.result c.refused.ensures
    (vector_too_deep c.args.from.now c.args.at c.args.count c.args.deep (1 + c.args.left.now) c.if-deep-eq0.true)

pub take_vector-loop-k-init : goal.take_vector-loop-k-init
take_vector-loop-k-init t c = record {
  passed =
      subst (λ es. ElementsPassed c.args.from.now c.args.at c.args.count (c.args.deep - 1) c.args.left.now es 0 c.args.left.now) (sym c.new-items.ensures)
      (none_passed c.args.from.now c.args.at c.args.count (c.args.deep - 1) c.args.left.now);
  less = omega arith;
}

pub take_vector-overflow_add-at : goal.take_vector-overflow_add-at
take_vector-overflow_add-at t c = search rules

pub take_vector-overflow_sub-deep : goal.take_vector-overflow_sub-deep
take_vector-overflow_sub-deep t c = omega arith

pub take_vector-take_word-requires : goal.take_vector-take_word-requires
take_vector-take_word-requires t c = search rules

pub take_vector-returns-in_err-item-clause-takes : goal.take_vector-returns-in_err-item-clause-takes
take_vector-returns-in_err-item-clause-takes t c =
    let p = err_from_is_err_and c.from_residual.result c.from_residual.ensures.1 in rw p.1 tt

pub take_vector-returns-in_err-item-clause-stops : goal.take_vector-returns-in_err-item-clause-stops
take_vector-returns-in_err-item-clause-stops t c =
    let p = err_from_is_err_and c.from_residual.result c.from_residual.ensures.1 in
    rw (p.1, p.2) (
    stops_weaker c.args.from.now.place _ _
    (λ r w.
    vector_fails c.args.from.now c.args.at c.args.count c.args.deep c.args.left.now r c.if-deep-eq0.false
    (element_fails c.args.from.now c.args.at c.args.count (c.args.deep - 1) c.args.left.now c.loop-k.items c.loop-k.k c.loop-k.left c.loop-k.invariant.passed
    (omega arith) c.word_in-word.result c.word_in-word.ensures r w))
    c.in_err-item.field-0.0 c.in_err-item.ensures.stops
    )

pub take_vector-returns-in_err-item-clause-less : goal.take_vector-returns-in_err-item-clause-less
take_vector-returns-in_err-item-clause-less t c =
    let p = err_from_is_err_and c.from_residual.result c.from_residual.ensures.1 in rw p.1 tt

pub take_vector-returns-in_err-push-clause-takes : goal.take_vector-returns-in_err-push-clause-takes
take_vector-returns-in_err-push-clause-takes t c =
    let p = err_from_is_err_and c.from_residual-in_err-push.result c.from_residual-in_err-push.ensures.1 in rw p.1 tt

pub take_vector-returns-in_err-push-clause-stops : goal.take_vector-returns-in_err-push-clause-stops
take_vector-returns-in_err-push-clause-stops t c =
    let p = err_from_is_err_and c.from_residual-in_err-push.result c.from_residual-in_err-push.ensures.1 in rw (p.1, p.2) tt

pub take_vector-returns-in_err-push-clause-less : goal.take_vector-returns-in_err-push-clause-less
take_vector-returns-in_err-push-clause-less t c =
    let p = err_from_is_err_and c.from_residual-in_err-push.result c.from_residual-in_err-push.ensures.1 in rw p.1 tt

pub take_vector-loop-k-smaller : goal.take_vector-loop-k-smaller
take_vector-loop-k-smaller t c = search rules

pub take_vector-loop-k-preserved : goal.take_vector-loop-k-preserved
take_vector-loop-k-preserved t c = record {
  passed =
      subst (λ es. ElementsPassed c.args.from.now c.args.at c.args.count (c.args.deep - 1) c.args.left.now es (c.loop-k.k + 1) c.take_word.new.left)
      (sym c.in_ok-push.ensures.ok)
      (element_passed c.args.from.now c.args.at c.args.count (c.args.deep - 1) c.args.left.now c.loop-k.items c.loop-k.k c.loop-k.left c.loop-k.invariant.passed
      (omega arith) c.word_in-word.result c.word_in-word.ensures c.in_ok-item.item c.take_word.new.left c.in_ok-item.ensures.takes);
  less = omega (arith, c.in_ok-item.ensures.less, c.loop-k.invariant.less);
}

pub take_vector-returns-clause-takes : goal.take_vector-returns-clause-takes
take_vector-returns-clause-takes t c =
    vector_taken c.args.from.now c.args.at c.args.count c.args.deep c.args.left.now c.loop-k.left c.loop-k.k c.loop-k.items c.new.result c.if-deep-eq0.false
    (omega arith) c.loop-k.invariant.passed c.new.ensures

pub take_vector-returns-clause-less : goal.take_vector-returns-clause-less
take_vector-returns-clause-less t c = c.loop-k.invariant.less

-- ---- lists

pub take_list-returns-then-deep-eq0-clause-stops : goal.take_list-returns-then-deep-eq0-clause-stops
take_list-returns-then-deep-eq0-clause-stops t c =
    stops_refused c.args.from.now.place
    (λ r. PartFails c.args.from.now (Cons c.args.car c.args.cdr) c.args.deep (1 + c.args.left.now) r) ExpansionTooLarge c.refused.result c.refused.ensures
    (list_too_deep c.args.from.now c.args.car c.args.cdr c.args.deep (1 + c.args.left.now) c.if-deep-eq0.true)

pub take_list-conses-init : goal.take_list-conses-init
take_list-conses-init t c = record {
  passed =
      subst (λ es. ChainPassed c.args.from.now (Cons c.args.car c.args.cdr) (c.args.deep - 1) c.args.left.now es (Cons c.args.car c.args.cdr) c.args.left.now)
      (sym c.new-items.ensures) (chain_begins c.args.from.now (Cons c.args.car c.args.cdr) (c.args.deep - 1) c.args.left.now);
  less = omega arith;
}

pub take_list-overflow_sub-deep : goal.take_list-overflow_sub-deep
take_list-overflow_sub-deep t c = omega arith

pub take_list-take_word-requires : goal.take_list-take_word-requires
take_list-take_word-requires t c = search rules

pub take_list-returns-in_err-item-in-Cons-clause-takes : goal.take_list-returns-in_err-item-in-Cons-clause-takes
take_list-returns-in_err-item-in-Cons-clause-takes t c =
    let p = err_from_is_err_and c.from_residual.result c.from_residual.ensures.1 in rw p.1 tt

pub take_list-returns-in_err-item-in-Cons-clause-stops : goal.take_list-returns-in_err-item-in-Cons-clause-stops
take_list-returns-in_err-item-in-Cons-clause-stops t c =
    let p = err_from_is_err_and c.from_residual.result c.from_residual.ensures.1 in
    rw (p.1, p.2) (
    stops_weaker c.args.from.now.place _ _
    (λ r w.
    item_fails c.args.from.now c.args.car c.args.cdr c.args.deep c.args.left.now r c.if-deep-eq0.false
    (chain_fails c.args.from.now (Cons c.args.car c.args.cdr) (c.args.deep - 1) c.args.left.now c.conses.items c.in-Cons.car c.in-Cons.cdr c.conses.left
    (subst (λ q. ChainPassed c.args.from.now (Cons c.args.car c.args.cdr) (c.args.deep - 1) c.args.left.now c.conses.items q c.conses.left) c.in-Cons.is c.conses.invariant.passed)
    r w))
    c.in_err-item-in-Cons.field-0.0 c.in_err-item-in-Cons.ensures.stops
    )

pub take_list-returns-in_err-item-in-Cons-clause-less : goal.take_list-returns-in_err-item-in-Cons-clause-less
take_list-returns-in_err-item-in-Cons-clause-less t c =
    let p = err_from_is_err_and c.from_residual.result c.from_residual.ensures.1 in rw p.1 tt

pub take_list-returns-in_err-push-in-Cons-clause-takes : goal.take_list-returns-in_err-push-in-Cons-clause-takes
take_list-returns-in_err-push-in-Cons-clause-takes t c =
    let p = err_from_is_err_and c.from_residual-in_err-push-in-Cons.result c.from_residual-in_err-push-in-Cons.ensures.1 in rw p.1 tt

pub take_list-returns-in_err-push-in-Cons-clause-stops : goal.take_list-returns-in_err-push-in-Cons-clause-stops
take_list-returns-in_err-push-in-Cons-clause-stops t c =
    let p = err_from_is_err_and c.from_residual-in_err-push-in-Cons.result c.from_residual-in_err-push-in-Cons.ensures.1 in rw (p.1, p.2) tt

pub take_list-returns-in_err-push-in-Cons-clause-less : goal.take_list-returns-in_err-push-in-Cons-clause-less
take_list-returns-in_err-push-in-Cons-clause-less t c =
    let p = err_from_is_err_and c.from_residual-in_err-push-in-Cons.result c.from_residual-in_err-push-in-Cons.ensures.1 in rw p.1 tt

pub take_list-conses-smaller : goal.take_list-conses-smaller
take_list-conses-smaller t c = c.in_ok-item-in-Cons.ensures.less

pub take_list-conses-preserved : goal.take_list-conses-preserved
take_list-conses-preserved t c = record {
  passed =
      subst (λ es. ChainPassed c.args.from.now (Cons c.args.car c.args.cdr) (c.args.deep - 1) c.args.left.now es c.part_of-part.result c.take_word.new.left)
      (sym c.in_ok-push-in-Cons.ensures.ok)
      (chain_goes_on c.args.from.now (Cons c.args.car c.args.cdr) (c.args.deep - 1) c.args.left.now c.conses.items c.in-Cons.car c.in-Cons.cdr c.conses.left
      (subst (λ q. ChainPassed c.args.from.now (Cons c.args.car c.args.cdr) (c.args.deep - 1) c.args.left.now c.conses.items q c.conses.left) c.in-Cons.is c.conses.invariant.passed)
      c.in_ok-item-in-Cons.item c.take_word.new.left c.part_of-part.result c.in_ok-item-in-Cons.ensures.takes c.part_of-part.ensures);
  less = omega (arith, c.in_ok-item-in-Cons.ensures.less, c.conses.invariant.less);
}

pub take_list-returns-in-Nil-clause-takes : goal.take_list-returns-in-Nil-clause-takes
take_list-returns-in-Nil-clause-takes t c =
    list_taken c.args.from.now c.args.car c.args.cdr c.args.deep c.args.left.now c.conses.left c.conses.items c.new.result c.if-deep-eq0.false
    (subst (λ q. ChainPassed c.args.from.now (Cons c.args.car c.args.cdr) (c.args.deep - 1) c.args.left.now c.conses.items q c.conses.left) c.in-Nil.is c.conses.invariant.passed)
    c.new.ensures

pub take_list-returns-in-Nil-clause-less : goal.take_list-returns-in-Nil-clause-less
take_list-returns-in-Nil-clause-less t c = c.conses.invariant.less

pub take_list-overflow_sub-deep-in_default : goal.take_list-overflow_sub-deep-in_default
take_list-overflow_sub-deep-in_default t c = omega arith

pub take_list-take_part-requires : goal.take_list-take_part-requires
take_list-take_part-requires t c = search rules

pub take_list-returns-in_err-datum-in_default : goal.take_list-returns-in_err-datum-in_default
take_list-returns-in_err-datum-in_default t c =
    let p = err_from_is_err_and c.from_residual-in_err-datum-in_default.result c.from_residual-in_err-datum-in_default.ensures.1 in record {
      takes = rw p.1 tt;
      stops =
          rw (p.1, p.2) (
          stops_weaker c.args.from.now.place _ _
          (λ r f.
          end_fails c.args.from.now c.args.car c.args.cdr c.args.deep c.args.left.now c.conses.left c.conses.items c.conses.part r c.if-deep-eq0.false
          c.in_default.not-Cons c.in_default.not-Nil c.conses.invariant.passed f)
          c.in_err-datum-in_default.field-0.0 c.in_err-datum-in_default.ensures.stops
          );
      less = rw p.1 tt;
    }

pub take_list-returns-in_err-tail-in_default : goal.take_list-returns-in_err-tail-in_default
take_list-returns-in_err-tail-in_default t c =
    let p = err_from_is_err_and c.from_residual-in_err-tail-in_default.result c.from_residual-in_err-tail-in_default.ensures.1 in record { takes = rw p.1 tt; stops = rw (p.1, p.2) tt; less = rw p.1 tt }

pub take_list-returns-in_default : goal.take_list-returns-in_default
take_list-returns-in_default t c =
    record {
      takes =
          dotted_taken c.args.from.now c.args.car c.args.cdr c.args.deep c.args.left.now c.conses.left c.take_part.new.left c.conses.items c.conses.part
          c.in_ok-datum-in_default.datum c.new-in_default.result c.if-deep-eq0.false c.in_default.not-Cons c.in_default.not-Nil c.conses.invariant.passed
          c.in_ok-datum-in_default.ensures.takes
          (c.new-in_default.ensures
          ∙ ap (λ e. item c.args.from.now.place (datum.list (items_of c.conses.items) (dotted e))) c.in_ok-tail-in_default.ensures);
      stops = tt;
      less = omega (arith, c.in_ok-datum-in_default.ensures.less, c.conses.invariant.less);
    }

-- ---- parts

pub take_part-returns-in_err-spend-clause-takes : goal.take_part-returns-in_err-spend-clause-takes
take_part-returns-in_err-spend-clause-takes t c =
    let p = err_from_is_err_and c.from_residual.result c.from_residual.ensures.1 in rw p.1 tt

pub take_part-returns-in_err-spend-clause-stops : goal.take_part-returns-in_err-spend-clause-stops
take_part-returns-in_err-spend-clause-stops t c =
    let p = err_from_is_err_and c.from_residual.result c.from_residual.ensures.1 in rw (p.1, p.2) (c.in_err-spend.ensures.stops c.args.deep)

pub take_part-returns-in_err-spend-clause-less : goal.take_part-returns-in_err-spend-clause-less
take_part-returns-in_err-spend-clause-less t c =
    let p = err_from_is_err_and c.from_residual.result c.from_residual.ensures.1 in rw p.1 tt

pub take_part-returns-in_err-bytes-in-Str-clause-takes : goal.take_part-returns-in_err-bytes-in-Str-clause-takes
take_part-returns-in_err-bytes-in-Str-clause-takes t c =
    let p = err_from_is_err_and c.from_residual-in_err-bytes-in-Str.result c.from_residual-in_err-bytes-in-Str.ensures.1 in rw p.1 tt

pub take_part-returns-in_err-bytes-in-Str-clause-stops : goal.take_part-returns-in_err-bytes-in-Str-clause-stops
take_part-returns-in_err-bytes-in-Str-clause-stops t c =
    let p = err_from_is_err_and c.from_residual-in_err-bytes-in-Str.result c.from_residual-in_err-bytes-in-Str.ensures.1 in rw (p.1, p.2) tt

pub take_part-returns-in_err-bytes-in-Str-clause-less : goal.take_part-returns-in_err-bytes-in-Str-clause-less
take_part-returns-in_err-bytes-in-Str-clause-less t c =
    let p = err_from_is_err_and c.from_residual-in_err-bytes-in-Str.result c.from_residual-in_err-bytes-in-Str.ensures.1 in rw p.1 tt

pub take_part-returns-in-Int-clause-takes : goal.take_part-returns-in-Int-clause-takes
take_part-returns-in-Int-clause-takes t c =
    taken_of c.args.from.now c.args.part (Int c.in-Int.number) c.args.deep c.args.left.now c.spend.new.left c.new.result c.spend.new.left c.in_ok-spend.ensures.ok refl c.in-Int.is
    (int_taken c.args.from.now c.args.deep (1 + c.spend.new.left) c.spend.new.left refl c.in-Int.number c.new.result
    (λ range. c.new.ensures ∙ ap (λ i. item c.args.from.now.place (datum.integer i)) (number_back c.in-Int.number range)))

pub take_part-returns-in-Int-clause-less : goal.take_part-returns-in-Int-clause-less
take_part-returns-in-Int-clause-less t c =
    omega (arith, left_is c.args.part (Int c.in-Int.number) c.args.left.now c.spend.new.left c.in_ok-spend.ensures.ok c.in-Int.is)

pub take_part-returns-in-Char-clause-takes : goal.take_part-returns-in-Char-clause-takes
take_part-returns-in-Char-clause-takes t c =
    taken_of c.args.from.now c.args.part (Char c.in-Char.code) c.args.deep c.args.left.now c.spend.new.left c.new-in-Char.result c.spend.new.left c.in_ok-spend.ensures.ok refl c.in-Char.is
    (char_taken c.args.from.now c.args.deep (1 + c.spend.new.left) c.spend.new.left refl c.in-Char.code c.new-in-Char.result c.new-in-Char.ensures)

pub take_part-returns-in-Char-clause-less : goal.take_part-returns-in-Char-clause-less
take_part-returns-in-Char-clause-less t c =
    omega (arith, left_is c.args.part (Char c.in-Char.code) c.args.left.now c.spend.new.left c.in_ok-spend.ensures.ok c.in-Char.is)

pub take_part-returns-in-Sym-clause-takes : goal.take_part-returns-in-Sym-clause-takes
take_part-returns-in-Sym-clause-takes t c =
    taken_of c.args.from.now c.args.part (Sym c.in-Sym.symbol) c.args.deep c.args.left.now c.spend.new.left c.new-in-Sym.result c.spend.new.left c.in_ok-spend.ensures.ok refl c.in-Sym.is
    (symbol_taken c.args.from.now c.args.deep (1 + c.spend.new.left) c.spend.new.left refl c.in-Sym.symbol c.new-in-Sym.result c.new-in-Sym.ensures)

pub take_part-returns-in-Sym-clause-less : goal.take_part-returns-in-Sym-clause-less
take_part-returns-in-Sym-clause-less t c =
    omega (arith, left_is c.args.part (Sym c.in-Sym.symbol) c.args.left.now c.spend.new.left c.in_ok-spend.ensures.ok c.in-Sym.is)

pub take_part-returns-in_ok-bytes-in-Str-clause-takes : goal.take_part-returns-in_ok-bytes-in-Str-clause-takes
take_part-returns-in_ok-bytes-in-Str-clause-takes t c =
    taken_as c.args.from.now c.args.part (Str c.in-Str.at c.in-Str.count) c.args.deep c.args.left.now c.new-in-Str.result c.spend.new.left c.in-Str.is
    (string_taken c.args.from.now c.in-Str.at c.in-Str.count c.args.deep c.args.left.now c.spend.new.left c.in_ok-bytes-in-Str.bytes c.new-in-Str.result
    (left_is c.args.part (Str c.in-Str.at c.in-Str.count) c.args.left.now c.spend.new.left c.in_ok-spend.ensures.ok c.in-Str.is) c.in_ok-bytes-in-Str.ensures c.new-in-Str.ensures)

pub take_part-returns-in_ok-bytes-in-Str-clause-less : goal.take_part-returns-in_ok-bytes-in-Str-clause-less
take_part-returns-in_ok-bytes-in-Str-clause-less t c =
    omega (arith, left_is c.args.part (Str c.in-Str.at c.in-Str.count) c.args.left.now c.spend.new.left c.in_ok-spend.ensures.ok c.in-Str.is)

pub take_part-returns-in-Vector-clause-takes : goal.take_part-returns-in-Vector-clause-takes
take_part-returns-in-Vector-clause-takes t c =
    IfOk-weaker c.take_vector.result _ _
    (λ d h.
    taken_of c.args.from.now c.args.part (Vector c.in-Vector.at c.in-Vector.count) c.args.deep c.args.left.now c.spend.new.left d c.take_vector.new.left c.in_ok-spend.ensures.ok refl c.in-Vector.is h)
    c.take_vector.ensures.takes

pub take_part-returns-in-Vector-clause-stops : goal.take_part-returns-in-Vector-clause-stops
take_part-returns-in-Vector-clause-stops t c =
    IfErr-weaker c.take_vector.result _ _
    (λ stop h.
    stops_weaker c.args.from.now.place _ _
    (λ r f.
    fails_of c.args.from.now c.args.part (Vector c.in-Vector.at c.in-Vector.count) c.args.deep c.args.left.now c.spend.new.left r c.in_ok-spend.ensures.ok refl c.in-Vector.is f) stop h)
    c.take_vector.ensures.stops

pub take_part-returns-in-Vector-clause-less : goal.take_part-returns-in-Vector-clause-less
take_part-returns-in-Vector-clause-less t c =
    on_ok_weaker c.take_vector.result
    (λ h. omega (arith, h, left_is c.args.part (Vector c.in-Vector.at c.in-Vector.count) c.args.left.now c.spend.new.left c.in_ok-spend.ensures.ok c.in-Vector.is)) c.take_vector.ensures.less

pub take_part-returns-in-Nil-clause-takes : goal.take_part-returns-in-Nil-clause-takes
take_part-returns-in-Nil-clause-takes t c =
    taken_of c.args.from.now c.args.part Nil c.args.deep c.args.left.now c.spend.new.left c.new-in-Nil.result c.spend.new.left c.in_ok-spend.ensures.ok refl c.in-Nil.is
    (nil_taken c.args.from.now c.args.deep (1 + c.spend.new.left) c.spend.new.left refl c.new-in-Nil.result c.new-in-Nil.ensures)

pub take_part-returns-in-Nil-clause-less : goal.take_part-returns-in-Nil-clause-less
take_part-returns-in-Nil-clause-less t c =
    omega (arith, left_is c.args.part Nil c.args.left.now c.spend.new.left c.in_ok-spend.ensures.ok c.in-Nil.is)

pub take_part-returns-in-Cons-clause-takes : goal.take_part-returns-in-Cons-clause-takes
take_part-returns-in-Cons-clause-takes t c =
    IfOk-weaker c.take_list.result _ _
    (λ d h.
    taken_of c.args.from.now c.args.part (Cons c.in-Cons.car c.in-Cons.cdr) c.args.deep c.args.left.now c.spend.new.left d c.take_list.new.left c.in_ok-spend.ensures.ok refl c.in-Cons.is h)
    c.take_list.ensures.takes

pub take_part-returns-in-Cons-clause-stops : goal.take_part-returns-in-Cons-clause-stops
take_part-returns-in-Cons-clause-stops t c =
    IfErr-weaker c.take_list.result _ _
    (λ stop h.
    stops_weaker c.args.from.now.place _ _
    (λ r f.
    fails_of c.args.from.now c.args.part (Cons c.in-Cons.car c.in-Cons.cdr) c.args.deep c.args.left.now c.spend.new.left r c.in_ok-spend.ensures.ok refl c.in-Cons.is f) stop h)
    c.take_list.ensures.stops

pub take_part-returns-in-Cons-clause-less : goal.take_part-returns-in-Cons-clause-less
take_part-returns-in-Cons-clause-less t c =
    on_ok_weaker c.take_list.result
    (λ h. omega (arith, h, left_is c.args.part (Cons c.in-Cons.car c.in-Cons.cdr) c.args.left.now c.spend.new.left c.in_ok-spend.ensures.ok c.in-Cons.is)) c.take_list.ensures.less

pub take_part-returns-in-NoDatum-clause-stops : goal.take_part-returns-in-NoDatum-clause-stops
take_part-returns-in-NoDatum-clause-stops t c =
    stops_refused c.args.from.now.place (λ r. PartFails c.args.from.now c.args.part c.args.deep c.args.left.now r) ExpansionNotForm c.refused.result
    c.refused.ensures
    (fails_as c.args.from.now c.args.part NoDatum c.args.deep c.args.left.now ExpansionNotForm c.in-NoDatum.is
    (no_datum_fails c.args.from.now c.args.deep c.args.left.now))

pub take_part-take_vector-requires : goal.take_part-take_vector-requires
take_part-take_vector-requires t c = search rules

pub take_part-take_list-requires : goal.take_part-take_list-requires
take_part-take_list-requires t c = search rules
