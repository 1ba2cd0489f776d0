-- One chain more, or one that does not fit.
use Rattle.std.proofs.Common.{◌≡◌, map, Err, ap}
use Rattle.std.proofs.lemmas.Result.{err_from_is_err_and}
use Rattle.lang_meaning.specs.Cells.{tuples}
use Rattle.lang_meaning.specs.Classes.{chain}
use Rattle.lang_dispatch.specs.Chains.{maybe_seen}
use Rattle.lang_dispatch.specs.OfClasses.{with_classes}
use Rattle.back_laying.specs.declared.faults.LayingFault.TheVariants as fault
use Rattle.back_laying.proofs.ChainCells.{chain_more, chain_too_large}
use Rattle.back_laying.proofs.generic_chains.lay_chains.Goals as goal

pub loop-index-preserved : goal.loop-index-preserved
loop-index-preserved c =
    let f = chain (with_classes c.args.classes.now) c.args.generic.now in
    chain_more f (map f (tuples c.args.firsts.now)) (tuples c.args.firsts.now) c.loop-index.index c.in_ok-tuple.tuple (maybe_seen c.in_ok-chain.chain) c.args.start
    c.loop-index.laid.cells c.loop-index.laid.words c.take.new.self.cells c.take.new.self.words c.in_ok-tuple.ensures c.in_ok-chain.ensures
    c.in_ok-take.ensures.cells c.in_ok-take.ensures.words c.loop-index.invariant

pub returns-in_err-take-clause-too_large : goal.returns-in_err-take-clause-too_large
returns-in_err-take-clause-too_large c =
    let f = chain (with_classes c.args.classes.now) c.args.generic.now in
    let p = err_from_is_err_and c.from_residual-in_err-take.result c.from_residual-in_err-take.ensures.1 in
    rw (p.1, p.2) (λ e.
    let same : c.in_err-take.field-0.0 ≡ fault.TooLarge = cc e in
    chain_too_large f (map f (tuples c.args.firsts.now)) (tuples c.args.firsts.now) c.loop-index.index c.in_ok-tuple.tuple (maybe_seen c.in_ok-chain.chain) c.args.start
    c.loop-index.laid.cells c.loop-index.laid.words c.in_ok-tuple.ensures c.in_ok-chain.ensures (c.in_err-take.ensures.too_large (ap Err same)) c.loop-index.invariant)
