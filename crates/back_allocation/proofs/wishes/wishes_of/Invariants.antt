use Rattle.std.proofs.Common.{◌≡◌, length}
use Rattle.back_allocation.specs.Wishes.{WishesHold}
use Rattle.back_allocation.specs.Slots.{AreAsked}
use Rattle.back_allocation.proofs.wishes.wishes_of.Given as goal

abbrev pub invariant-loop-register : goal.invariant-loop-register
invariant-loop-register l = record {
  count : length l.wishes ≡ l.register;
  asked : AreAsked l.all l.told l.parameters l.owners l.register l.wishes;
  hold : WishesHold l.all l.told l.parameters l.register l.wishes;
}
