use Rattle.std.proofs.Common.{rules, refl, reverse, length, []}
use Rattle.front_reader.specs.bridge.Machine.{more}
use Rattle.front_reader.specs.Meanings.{number_in}
use Rattle.front_reader.proofs.Stepping.{state}
use Rattle.front_reader.proofs.Numbering.{later-then}
use Rattle.front_reader.specs.declared.step.Turn.TheVariants.{Goes, Whole, Ends}
use Rattle.front_reader.proofs.Finding.{later-same, read-start, stop-found, leads-as, goes-as}
use Rattle.front_reader.proofs.step.read.Goals as goal

pub loop-behind-init : goal.loop-behind-init
loop-behind-init c = record {
  to = λ T l. read-start (number_in T) c.args.cursor.rest.now c.args.cursor.place c.new-pending.result.items (search rules);
  fits = c.requires.fits;
  later = later-same c.args.names.now c.len.ensures.table;
}

pub loop-behind-preserved : goal.loop-behind-preserved
loop-behind-preserved c = record {
  to = λ T l. more _ _ _
      (c.loop-behind.invariant.to T (later-then c.loop-behind.names c.step.new.names T c.in-Ok-Goes.ensures.names l))
      (leads-as _ c.in-Ok-Goes.field-0 (Goes c.in-Ok-Goes.behind) c.step.new.pending.items c.in-Ok-Goes.field-0-is (c.in-Ok-Goes.ensures.leads T l));
  fits = (goes-as (length c.loop-behind.cursor.rest.now) c.in-Ok-Goes.field-0 (Goes c.in-Ok-Goes.behind) c.in-Ok-Goes.field-0-is c.in-Ok-Goes.ensures.goes_on).0;
  later = later-then c.args.names.now c.loop-behind.names c.step.new.names c.loop-behind.invariant.later c.in-Ok-Goes.ensures.names;
}

pub returns-in-Ok-Whole-clause-found : goal.returns-in-Ok-Whole-clause-found
returns-in-Ok-Whole-clause-found c =
    let new = c.step.new.names in
    let same = later-same new c.in-Ok-Whole.ensures.names.is_table in (
      more _ _ _
          (c.loop-behind.invariant.to new (later-then c.loop-behind.names new new c.in-Ok-Whole.ensures.names same))
          (leads-as _ c.in-Ok-Whole.field-0 (Whole c.in-Ok-Whole.behind c.in-Ok-Whole.datum) c.step.new.pending.items c.in-Ok-Whole.field-0-is (c.in-Ok-Whole.ensures.leads new same)),
      (goes-as (length c.loop-behind.cursor.rest.now) c.in-Ok-Whole.field-0 (Whole c.in-Ok-Whole.behind c.in-Ok-Whole.datum) c.in-Ok-Whole.field-0-is c.in-Ok-Whole.ensures.goes_on).0,
    )

pub returns-in-Ok-Ends-clause-found : goal.returns-in-Ok-Ends-clause-found
returns-in-Ok-Ends-clause-found c =
    let new = c.step.new.names in
    let same = later-same new c.in-Ok-Ends.ensures.names.is_table in (
      _,
      (
        c.loop-behind.invariant.to new (later-then c.loop-behind.names new new c.in-Ok-Ends.ensures.names same),
        refl,
        leads-as _ c.in-Ok-Ends.field-0 Ends c.step.new.pending.items c.in-Ok-Ends.field-0-is (c.in-Ok-Ends.ensures.leads new same),
      ),
    )

pub returns-in-Err-clause-found : goal.returns-in-Err-clause-found
returns-in-Err-clause-found c =
    let new = c.step.new.names in
    let same = later-same new c.in-Err.ensures.names.is_table in
    stop-found new c.args.cursor.rest.now c.args.cursor.place
    (state c.loop-behind.cursor.rest.now c.loop-behind.cursor.place [] (reverse c.loop-behind.pending.items)) c.in-Err.stop
    c.step.new.pending.items
    (c.loop-behind.invariant.to new (later-then c.loop-behind.names new new c.in-Err.ensures.names same))
    refl (c.in-Err.ensures.leads new same)

pub returns-in-Ok-Whole-clause-names : goal.returns-in-Ok-Whole-clause-names
returns-in-Ok-Whole-clause-names c = later-then c.args.names.now c.loop-behind.names c.step.new.names c.loop-behind.invariant.later c.in-Ok-Whole.ensures.names

pub returns-in-Ok-Ends-clause-names : goal.returns-in-Ok-Ends-clause-names
returns-in-Ok-Ends-clause-names c = later-then c.args.names.now c.loop-behind.names c.step.new.names c.loop-behind.invariant.later c.in-Ok-Ends.ensures.names

pub returns-in-Err-clause-names : goal.returns-in-Err-clause-names
returns-in-Err-clause-names c = later-then c.args.names.now c.loop-behind.names c.step.new.names c.loop-behind.invariant.later c.in-Err.ensures.names
