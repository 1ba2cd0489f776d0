-- One symbol more.
use Rattle.std.proofs.Common.{◌+◌, ◌*◌, ◌≤◌, length, take, subst, sym, arith}
use Rattle.std.proofs.lemmas.List.{take_all}
use Rattle.mid_start.specs.NamedSymbols.{LaysSymbols}
use Rattle.mid_start.proofs.Joins.{within_both, taken_more}
use Rattle.mid_start.proofs.NamedSymbols.{one_more_laid}
use Rattle.mid_start.proofs.named_symbols.lay_names.Goals as goal

pub loop-at-preserved : goal.loop-at-preserved
loop-at-preserved c = record {
  within = within_both c.args.words.now c.loop-at.words c.lay_name.new.words (70 * c.loop-at.at) 70 (70 * (c.loop-at.at + 1))
      (omega arith) c.loop-at.invariant.within c.in_ok-lay_name.ensures.within;
  lays =
      subst (λ ns. LaysSymbols c.args.names.now ns c.args.words.now c.lay_name.new.words)
      (sym (taken_more c.args.wanted.now c.loop-at.at c.in-Some.name.now c.in-Some.ensures))
      (one_more_laid c.args.names.now c.len.ensures.table (take c.loop-at.at c.args.wanted.now) c.in-Some.name.now c.args.words.now c.loop-at.words
      c.lay_name.new.words c.in_ok-lay_name.field-0
      (c.requires.named.there c.loop-at.at c.in-Some.name.now c.in-Some.ensures) c.loop-at.invariant.lays c.in_ok-lay_name.ensures.grown c.in_ok-lay_name.ensures.made);
}

pub returns-clause-lays : goal.returns-clause-lays
returns-clause-lays c =
    let past : length c.args.wanted.now ≤ c.loop-at.at = omega (arith, c.len-at-end.ensures) in
    subst (λ ns. LaysSymbols c.args.names.now ns c.args.words.now c.loop-at.words) (take_all c.loop-at.at c.args.wanted.now past) c.loop-at.invariant.lays
