-- A part of each kind is built; a loop builds one more at each turn.
use Rattle.std.proofs.Common.{rules, arith}
use Rattle.base.specs.Names.{Extends-same, Extends-then}
use Rattle.lang_derived.proofs.Building.{read_at, piece_in_smaller, made_built, parens_built, none_built, built_turn, copy_built}
use Rattle.lang_derived.proofs.build.+build.Goals as goal

pub build-returns-in-Made-clause-builds : goal.build-returns-in-Made-clause-builds
build-returns-in-Made-clause-builds t c = made_built _ _ _ c.in-Made.serial _ (search rules) c.made.ensures

pub build-returns-in-Taken-clause-builds : goal.build-returns-in-Taken-clause-builds
build-returns-in-Taken-clause-builds t c = copy_built _ _ _ c.in-Taken.datum.now _ (search rules) c.copy.ensures

pub build-returns-in_ok-items-in-Parens-clause-builds : goal.build-returns-in_ok-items-in-Parens-clause-builds
build-returns-in_ok-items-in-Parens-clause-builds t c =
    parens_built _ _ _ c.in-Parens.pieces c.in_ok-items-in-Parens.items _ (search rules) c.in_ok-items-in-Parens.ensures.builds c.parenthesized.ensures

pub build_all-loop-piece-init : goal.build_all-loop-piece-init
build_all-loop-piece-init t c = record { built = rw c.new-items.ensures (none_built _ _); later = Extends-same _ }

pub build_all-build-requires : goal.build_all-build-requires
build_all-build-requires t c =
    let there = read_at c.args.pieces.now c.as_slice-piece-items.result.now c.loop-piece.piece-index c.piece-item.result c.as_slice-piece-items.ensures c.loop-piece-test.true c.piece-item.is in
    (omega (arith, piece_in_smaller c.args.pieces.now c.loop-piece.piece-index c.piece-item.result there, c.decreases), tt)

pub build_all-loop-piece-preserved : goal.build_all-loop-piece-preserved
build_all-loop-piece-preserved t c =
    let there = read_at c.args.pieces.now c.as_slice-piece-items.result.now c.loop-piece.piece-index c.piece-item.result c.as_slice-piece-items.ensures c.loop-piece-test.true c.piece-item.is in
    record {
      built = built_turn _ _ _ _ _ _ c.loop-piece.items _ _ there c.in_ok-build.ensures.names c.loop-piece.invariant.built c.in_ok-build.ensures.builds c.in_ok-push.ensures.ok;
      later = Extends-then _ _ _ c.loop-piece.invariant.later c.in_ok-build.ensures.names;
    }
