-- Constants are there, behind the objects.
use Rattle.std.proofs.Common.{◌≡◌, length, Some, sym, subst, arith}
use Rattle.std.proofs.lemmas.Option.{slice_get_within}
use Rattle.mid_code.specs.Arena.{word_at}
use Rattle.mid_arena.specs.Places.{of_other}
use Rattle.mid_arena.proofs.Growing.{spot_below}
use Rattle.back_values.specs.Chains.{LawOfConstants}

pub constants_law : LawOfConstants
constants_law setting w z y t p word h =
    let further = t.further h.number word h.found in
    let within = slice_get_within setting.further h.number word h.found in
    let stands = t.represents.arena in
    let below = spot_below stands (t.represents.spots (of_other 2) (record { address = setting.further_at; words = length setting.further; tag = 0 }) further.0) in
    (subst (λ q. word_at y.arena q ≡ Some word) (sym h.here) further.1, omega (arith, h.here, within, below, stands.room, stands.size))
