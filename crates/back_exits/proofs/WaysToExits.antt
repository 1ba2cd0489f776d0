-- Ways to own exits whose records are at hand: at once, or by the routine of transfers.
use Rattle.std.proofs.Common.{◌≡◌, refl}
use Rattle.flat_language.specs.declared.place.ExitPlace.TheVariants.{Own}
use Rattle.flat_language.specs.FlatForm.{return_from, go}
use Rattle.back_lowering.specs.declared.scope.Reach.{Reach}
use Rattle.back_lowering.specs.declared.scope.Reach.TheVariants.{AtOnce, ByTransfer, BySearch}
use Rattle.back_relation.specs.Points.{Here}
use Rattle.back_exits.proofs.AtOnce.{returns_at_once_law, goes_at_once_law}
use Rattle.back_exits.proofs.Returns.{returns_by_transfer_law, goes_by_transfer_law}
use Rattle.back_exits.specs.Exits.{IsAtHand, LawOfReturns, LawOfGoes}
use Rattle.back_exits.proofs.TransfersGoing.{transfer_goes}

pub returns_law : LawOfReturns
returns_law setting s d n size k turns i x f placed there enough_words found at_hand block here = by x.reach refl at_hand
  where
    by : (o : Reach) → x.reach ≡ o → IsAtHand o → Here setting s d n size k turns (return_from (Own i) f)
    by AtOnce same h = returns_at_once_law setting s d n size k turns i x f placed there found same block here
    by ByTransfer same h =
        returns_by_transfer_law setting s d n size k turns i x f placed there enough_words (transfer_goes setting k turns placed) found same block here
    by BySearch same h = absurd h

pub goes_law : LawOfGoes
goes_law setting s d n size k turns i segment x placed there enough_words found at_hand is_there = by x.reach refl at_hand
  where
    by : (o : Reach) → x.reach ≡ o → IsAtHand o → Here setting s d n size k turns (go (Own i) segment)
    by AtOnce same h = goes_at_once_law setting s d n size k turns i segment x placed there found same is_there
    by ByTransfer same h =
        goes_by_transfer_law setting s d n size k turns i segment x placed there enough_words (transfer_goes setting k turns placed) found same is_there
    by BySearch same h = absurd h
