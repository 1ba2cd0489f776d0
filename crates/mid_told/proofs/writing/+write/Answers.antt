-- What is written of a word is what is written of its part; a vector and a list are written part by part.
use Rattle.std.proofs.Common.{◌++◌, [], refl, sym, subst, arith}
use Rattle.std.specs.Prelude.{codes}
use Rattle.std.proofs.lemmas.Result.{err_from_is_err_and, IfErr-weaker, on_ok_weaker}
use Rattle.mid_told.specs.declared.parts.Part.TheVariants.{Atom, Nil, Cons, NoDatum}
use Rattle.mid_told.proofs.Passed.{ElementsPassed, none_passed, element_passed, element_unwritten, vector_written}
use Rattle.mid_told.proofs.Passed.{ChainPassed, chain_begins, chain_goes_on, item_unwritten, end_unwritten, list_written, dotted_written}
use Rattle.mid_told.proofs.Writes.{atom_written, nil_written, no_datum_unwritten, word_written, word_unwritten, halts_weaker, left_is, written_as, unwritten_as}
use Rattle.mid_told.proofs.writing.+write.Goals as goal

-- ---- words

pub write_word-returns-clause-writes : goal.write_word-returns-clause-writes
write_word-returns-clause-writes t c =
    on_ok_weaker c.write_part.result
    (λ h.
    word_written c.args.words.now c.args.word c.args.left.now c.part_of-part.result c.args.out.now c.write_part.new.out c.write_part.new.left c.part_of-part.ensures h)
    c.write_part.ensures.writes

pub write_word-returns-clause-halts : goal.write_word-returns-clause-halts
write_word-returns-clause-halts t c =
    IfErr-weaker c.write_part.result _ _
    (λ halt h.
    halts_weaker _ _
    (λ f. word_unwritten c.args.words.now c.args.word c.args.left.now c.part_of-part.result c.part_of-part.ensures f) halt h)
    c.write_part.ensures.halts

-- ---- vectors

pub write_vector-loop-k-init : goal.write_vector-loop-k-init
write_vector-loop-k-init t c = record {
  passed =
      subst (λ now. ElementsPassed c.args.words.now c.args.at c.args.count c.args.left.now (c.args.out.now ++ codes "#(") [] now 0 c.args.left.now)
      (sym c.in_ok-append.ensures.ok)
      (none_passed c.args.words.now c.args.at c.args.count c.args.left.now (c.args.out.now ++ codes "#("));
  less = omega arith;
}

pub write_vector-returns-in_err-write_word-clause-halts : goal.write_vector-returns-in_err-write_word-clause-halts
write_vector-returns-in_err-write_word-clause-halts t c =
    let p = err_from_is_err_and c.from_residual-in_err-write_word.result c.from_residual-in_err-write_word.ensures.1 in
    rw (p.1, p.2) (
    halts_weaker _ _
    (λ w.
    element_unwritten c.args.words.now c.args.at c.args.count c.args.left.now (c.args.out.now ++ codes "#(") c.loop-k.gap.now c.loop-k.out c.loop-k.k c.loop-k.left
    c.loop-k.invariant.passed (omega arith) c.word_in-word.result c.word_in-word.ensures w)
    c.in_err-write_word.field-0.0 c.in_err-write_word.ensures.halts
    )

pub write_vector-loop-k-preserved : goal.write_vector-loop-k-preserved
write_vector-loop-k-preserved t c = record {
  passed =
      element_passed c.args.words.now c.args.at c.args.count c.args.left.now (c.args.out.now ++ codes "#(") c.loop-k.gap.now c.loop-k.out c.loop-k.k c.loop-k.left
      c.loop-k.invariant.passed (omega arith) c.word_in-word.result c.word_in-word.ensures c.append-in-loop-k.new.self c.write_word.new.out c.write_word.new.left
      c.in_ok-append-2.ensures.ok c.in_ok-write_word.ensures.writes;
  less = omega (arith, c.in_ok-write_word.ensures.less, c.loop-k.invariant.less);
}

pub write_vector-returns-clause-writes : goal.write_vector-returns-clause-writes
write_vector-returns-clause-writes t c =
    vector_written c.args.words.now c.args.at c.args.count c.args.left.now c.args.out.now (c.args.out.now ++ codes "#(") c.loop-k.gap.now c.loop-k.out c.push.new.self
    c.loop-k.k c.loop-k.left (omega arith) refl c.loop-k.invariant.passed c.in_ok-push.ensures.ok

-- ---- lists

pub write_list-conses-init : goal.write_list-conses-init
write_list-conses-init t c = record {
  passed =
      subst (λ now. ChainPassed c.args.words.now (Cons c.args.car c.args.cdr) c.args.left.now (c.args.out.now ++ codes "(") [] now (Cons c.args.car c.args.cdr) c.args.left.now)
      (sym c.in_ok-append.ensures.ok)
      (chain_begins c.args.words.now (Cons c.args.car c.args.cdr) c.args.left.now (c.args.out.now ++ codes "("));
  less = omega arith;
}

pub write_list-returns-in_err-write_word-in-Cons-clause-halts : goal.write_list-returns-in_err-write_word-in-Cons-clause-halts
write_list-returns-in_err-write_word-in-Cons-clause-halts t c =
    let p = err_from_is_err_and c.from_residual-in_err-write_word-in-Cons.result c.from_residual-in_err-write_word-in-Cons.ensures.1 in
    rw (p.1, p.2) (
    halts_weaker _ _
    (λ w.
    item_unwritten c.args.words.now c.args.car c.args.cdr c.args.left.now (c.args.out.now ++ codes "(") c.conses.gap.now c.conses.out c.in-Cons.car c.in-Cons.cdr c.conses.left
    (subst (λ q. ChainPassed c.args.words.now (Cons c.args.car c.args.cdr) c.args.left.now (c.args.out.now ++ codes "(") c.conses.gap.now c.conses.out q c.conses.left)
    c.in-Cons.is c.conses.invariant.passed)
    w)
    c.in_err-write_word-in-Cons.field-0.0 c.in_err-write_word-in-Cons.ensures.halts
    )

pub write_list-conses-preserved : goal.write_list-conses-preserved
write_list-conses-preserved t c = record {
  passed =
      chain_goes_on c.args.words.now (Cons c.args.car c.args.cdr) c.args.left.now (c.args.out.now ++ codes "(") c.conses.gap.now c.conses.out c.in-Cons.car c.in-Cons.cdr c.conses.left
      (subst (λ q. ChainPassed c.args.words.now (Cons c.args.car c.args.cdr) c.args.left.now (c.args.out.now ++ codes "(") c.conses.gap.now c.conses.out q c.conses.left)
      c.in-Cons.is c.conses.invariant.passed)
      c.append-in-Cons.new.self c.write_word.new.out c.write_word.new.left c.part_of-part.result c.in_ok-append-in-Cons.ensures.ok
      c.in_ok-write_word-in-Cons.ensures.writes c.part_of-part.ensures;
  less = omega (arith, c.in_ok-write_word-in-Cons.ensures.less, c.conses.invariant.less);
}

pub write_list-returns-in-Nil-clause-writes : goal.write_list-returns-in-Nil-clause-writes
write_list-returns-in-Nil-clause-writes t c =
    list_written c.args.words.now c.args.car c.args.cdr c.args.left.now c.args.out.now (c.args.out.now ++ codes "(") c.conses.gap.now c.conses.out c.push.new.self
    c.conses.left refl
    (subst (λ q. ChainPassed c.args.words.now (Cons c.args.car c.args.cdr) c.args.left.now (c.args.out.now ++ codes "(") c.conses.gap.now c.conses.out q c.conses.left)
    c.in-Nil.is c.conses.invariant.passed)
    c.in_ok-push-in-Nil.ensures.ok

pub write_list-returns-in_err-write_part-in_default : goal.write_list-returns-in_err-write_part-in_default
write_list-returns-in_err-write_part-in_default t c =
    let p = err_from_is_err_and c.from_residual-in_err-write_part-in_default.result c.from_residual-in_err-write_part-in_default.ensures.1 in record {
      writes = rw p.1 tt;
      halts =
          rw (p.1, p.2) (
          halts_weaker _ _
          (λ f.
          end_unwritten c.args.words.now c.args.car c.args.cdr c.args.left.now (c.args.out.now ++ codes "(") c.conses.gap.now c.conses.out c.conses.part c.conses.left
          c.in_default.not-Cons c.in_default.not-Nil c.conses.invariant.passed f)
          c.in_err-write_part-in_default.field-0.0 c.in_err-write_part-in_default.ensures.halts
          );
      less = rw p.1 tt;
    }

pub write_list-returns-in_default : goal.write_list-returns-in_default
write_list-returns-in_default t c = record {
  writes =
      dotted_written c.args.words.now c.args.car c.args.cdr c.args.left.now c.args.out.now (c.args.out.now ++ codes "(") c.conses.gap.now c.conses.out
      c.append-in_default.new.self c.write_part.new.out c.push-in_default.new.self c.conses.part c.conses.left c.write_part.new.left c.in_default.not-Cons
      c.in_default.not-Nil refl c.conses.invariant.passed c.in_ok-append-in_default.ensures.ok c.in_ok-write_part-in_default.ensures.writes
      c.in_ok-push-in_default.ensures.ok;
  halts = tt;
  less = omega (arith, c.in_ok-write_part-in_default.ensures.less, c.conses.invariant.less);
}

-- ---- parts

pub write_part-returns-in_err-spend-clause-halts : goal.write_part-returns-in_err-spend-clause-halts
write_part-returns-in_err-spend-clause-halts t c =
    let p = err_from_is_err_and c.from_residual.result c.from_residual.ensures.1 in rw (p.1, p.2) (c.in_err-spend.ensures.halts c.args.words.now)

pub write_part-returns-in_ok-write_atom-in-Atom-clause-writes : goal.write_part-returns-in_ok-write_atom-in-Atom-clause-writes
write_part-returns-in_ok-write_atom-in-Atom-clause-writes t c =
    written_as c.args.words.now c.args.part (Atom c.in-Atom.atom) c.args.left.now c.args.out.now c.write_atom.new.out c.spend.new.left c.in-Atom.is
    (atom_written c.args.words.now c.in-Atom.atom c.args.left.now c.spend.new.left c.args.out.now c.write_atom.new.out
    (left_is c.args.part (Atom c.in-Atom.atom) c.args.left.now c.spend.new.left c.in_ok-spend.ensures.ok c.in-Atom.is) c.in_ok-write_atom-in-Atom.ensures)

pub write_part-returns-in_ok-append-in-Nil-clause-writes : goal.write_part-returns-in_ok-append-in-Nil-clause-writes
write_part-returns-in_ok-append-in-Nil-clause-writes t c =
    written_as c.args.words.now c.args.part Nil c.args.left.now c.args.out.now c.append.new.self c.spend.new.left c.in-Nil.is
    (nil_written c.args.words.now c.args.left.now c.spend.new.left c.args.out.now c.append.new.self
    (left_is c.args.part Nil c.args.left.now c.spend.new.left c.in_ok-spend.ensures.ok c.in-Nil.is) c.in_ok-append-in-Nil.ensures.ok)

pub write_part-returns-in-NoDatum-clause-halts : goal.write_part-returns-in-NoDatum-clause-halts
write_part-returns-in-NoDatum-clause-halts t c =
    unwritten_as c.args.words.now c.args.part NoDatum c.args.left.now c.in-NoDatum.is (no_datum_unwritten c.args.words.now c.args.left.now)
