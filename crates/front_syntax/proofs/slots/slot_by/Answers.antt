-- A name alone has no options.
use Rattle.std.proofs.Common.{◌≡◌, ap, sym}
use Rattle.base.specs.Data.{place_of}
use Rattle.front_syntax.proofs.slots.slot_by.Goals as goal

pub returns-in-Some : goal.returns-in-Some
returns-in-Some c =
    let place : place_of c.args.datum.now ≡ c.datum.inside.place = ap place_of (sym c.datum.view_is) in
    rw (← c.in-Some.ensures, place) (rw (c.name_of.ensures, c.new-options.ensures) at c.slot_with.ensures)
