-- The forms of a text, one after another.
use Rattle.std.proofs.Common.{rules}
use Rattle.base.specs.Names.{Extends-same, Extends-then}
use Rattle.front_reader.specs.bridge.WellFormedReads.{next_shorter}
use Rattle.front_files.proofs.Going.{leads_start, leads_more, leads_end, leads_stop, leads_refused}
use Rattle.front_files.proofs.forms.judge_forms.Goals as goal

pub loop-datum-init : goal.loop-datum-init
loop-datum-init g c =
    (leads_start c.args.names.now c.args.origin c.args.mode c.args.scope.now c.args.reader.now.rest c.args.reader.now.place, c.requires.fresh, Extends-same c.args.names.now)

pub loop-datum-smaller : goal.loop-datum-smaller
loop-datum-smaller g c =
    let read = rw c.in-Some.is at c.in_ok-datum.ensures.read in
    next_shorter c.next.new.names c.loop-datum.reader.rest c.loop-datum.reader.place c.in-Some.datum c.next.new.self.rest read.reads

pub loop-datum-preserved : goal.loop-datum-preserved
loop-datum-preserved g c =
    let read = rw c.in-Some.is at c.in_ok-datum.ensures.read in (
      leads_more c.loop-datum.names c.next.new.names c.judge_form.new.names c.args.origin c.args.mode c.args.scope.now c.args.reader.now.rest c.args.reader.now.place
          c.loop-datum.scope c.loop-datum.reader c.next.new.self c.in-Some.datum c.judge_form.new.scope
          c.in_ok-datum.ensures.names.extends c.in_ok-judge_form.ensures.names c.loop-datum.invariant.0 read c.in_ok-judge_form.ensures.taken,
      read.still,
      Extends-then c.args.names.now c.next.new.names c.judge_form.new.names
          (Extends-then c.args.names.now c.loop-datum.names c.next.new.names c.loop-datum.invariant.2 c.in_ok-datum.ensures.names.extends)
          c.in_ok-judge_form.ensures.names,
    )

pub returns-in_err-datum-clause-stops : goal.returns-in_err-datum-clause-stops
returns-in_err-datum-clause-stops g c =
    let stopped =
    leads_stop c.loop-datum.names c.next.new.names c.args.origin c.args.mode c.args.scope.now c.args.reader.now.rest c.args.reader.now.place
    c.loop-datum.scope c.loop-datum.reader c.next.new.self c.in_err-datum.field-0.0
    c.in_err-datum.ensures.names.extends c.loop-datum.invariant.1 c.loop-datum.invariant.0 c.in_err-datum.ensures.refused in
    search (rules, stopped)

pub returns-in_err-datum-clause-names : goal.returns-in_err-datum-clause-names
returns-in_err-datum-clause-names g c =
    Extends-then c.args.names.now c.loop-datum.names c.next.new.names c.loop-datum.invariant.2 c.in_err-datum.ensures.names.extends

pub returns-in_err-judge_form-clause-stops : goal.returns-in_err-judge_form-clause-stops
returns-in_err-judge_form-clause-stops g c =
    let read = rw c.in-Some.is at c.in_ok-datum.ensures.read in
    let stopped =
    leads_refused c.loop-datum.names c.next.new.names c.judge_form.new.names c.args.origin c.args.mode c.args.scope.now c.args.reader.now.rest c.args.reader.now.place
    c.loop-datum.scope c.loop-datum.reader c.next.new.self c.in-Some.datum c.in_err-judge_form.field-0.0
    c.in_ok-datum.ensures.names.extends c.in_err-judge_form.ensures.names c.loop-datum.invariant.0 read c.in_err-judge_form.ensures.stops in
    search (rules, stopped)

pub returns-in_err-judge_form-clause-names : goal.returns-in_err-judge_form-clause-names
returns-in_err-judge_form-clause-names g c =
    Extends-then c.args.names.now c.next.new.names c.judge_form.new.names
    (Extends-then c.args.names.now c.loop-datum.names c.next.new.names c.loop-datum.invariant.2 c.in_ok-datum.ensures.names.extends)
    c.in_err-judge_form.ensures.names

pub returns-clause-taken : goal.returns-clause-taken
returns-clause-taken g c =
    let ended = rw c.in_default.is at c.in_ok-datum.ensures.ended in
    leads_end c.loop-datum.names c.next.new.names c.args.origin c.args.mode c.args.scope.now c.args.reader.now.rest c.args.reader.now.place
    c.loop-datum.scope c.loop-datum.reader c.next.new.self c.in_ok-datum.ensures.names.extends c.loop-datum.invariant.0 ended

pub returns-clause-names : goal.returns-clause-names
returns-clause-names g c =
    Extends-then c.args.names.now c.loop-datum.names c.next.new.names c.loop-datum.invariant.2 c.in_ok-datum.ensures.names.extends
