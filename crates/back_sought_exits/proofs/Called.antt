-- What is known of the two routines that ways to exits call: the one of transfers goes to a record, and the one that leaves by a number finds what the
-- meaning finds.
use Rattle.back_exits.proofs.Combined.{transfers_law, leaving_law}
use Rattle.back_sought_exits.specs.Called.{LawOfTransferring, LawOfSeeking, LawOfReturns, LawOfGoes}
use Rattle.back_sought_exits.proofs.Whole.{whole_returns_law, whole_goes_law}

pub transferring_law : LawOfTransferring
transferring_law setting k turns placed rs valid w around z y = transfers_law.does setting k turns rs valid w around z y placed

pub seeking_law : LawOfSeeking
seeking_law setting k turns placed fails rs valid w around z y =
    leaving_law.by_number setting k turns rs valid w around z y placed (λ t few rs valid w z y. fails t few rs valid w around z y)

pub returns_law : LawOfReturns
returns_law setting k turns p f placed fails does =
    whole_returns_law setting k turns p f placed (transferring_law setting k turns placed) (seeking_law setting k turns placed fails) does

pub goes_law : LawOfGoes
goes_law setting k turns p segment placed fails =
    whole_goes_law setting k turns p segment placed (transferring_law setting k turns placed) (seeking_law setting k turns placed fails)
