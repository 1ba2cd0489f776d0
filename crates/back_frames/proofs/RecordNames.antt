-- The registers that the code of control records names.
use Rattle.std.proofs.Common.{ℕ, ◌+◌, arith}
use Rattle.mid_code.specs.MidCode.{MidCodes}
use Rattle.back_lowering.specs.declared.scope.SitePlace.{SitePlace}
use Rattle.back_lowering.specs.declared.scope.Reach.TheVariants.{AtOnce, ByTransfer, BySearch}
use Rattle.back_lowering.specs.declared.scope.OwnExit.{OwnExit}
use Rattle.back_lowering.specs.declared.placement.Placement.{Placement}
use Rattle.back_lowering.specs.Steps.{Steps}
use Rattle.back_lowering.specs.Records.{record_laid, exit_laid, record_left, record_landed, block_code, catch_code, tagbody_code, unwind_code, by_serial, landing_kept, to_own}
use Rattle.back_frames.proofs.Naming.{Names, CodesName, Range, narrowed, none, ◌▸◌, ◌⊹◌, moves, constants, computes, loads, stores, draws, calls, cuts, chooses, blocks, repeats, switches}
use Rattle.back_frames.proofs.Surroundings.{SiteAllowed}
use Rattle.back_frames.proofs.LeafNames.{site_names}

pub laid_names : {P : ℕ → Type 0} (b t kind : ℕ) → Range P b 5 → P t → P (t + 1) → Names P (record_laid b t kind)
laid_names b t kind all x y =
    let b0 = all b (omega arith) (omega arith) in
    constants x ▸ constants y ▸ stores y b0
    ▸ loads (all (b + 1) (omega arith) (omega arith)) x ▸ stores (all (b + 1) (omega arith) (omega arith)) b0
    ▸ loads (all (b + 2) (omega arith) (omega arith)) x
    ▸ loads (all (b + 3) (omega arith) (omega arith)) x ▸ loads (all (b + 4) (omega arith) (omega arith)) x
    ▸ stores b0 x ▸ none

exit_names : {P : ℕ → Type 0} (e b t kind : ℕ) → P e → Range P b 5 → P t → P (t + 1) → Names P (exit_laid e b t kind)
exit_names e b t kind z all x y =
    let b0 = all b (omega arith) (omega arith) in
    laid_names b t kind all x y
    ⊹ draws z x ▸ stores z b0 ▸ stores (all (b + 2) (omega arith) (omega arith)) b0 ▸ stores b0 x ▸ none

left_names : {P : ℕ → Type 0} (b t : ℕ) → Range P b 5 → P t → Names P (record_left b t)
left_names b t all x = constants x ▸ stores (all (b + 1) (omega arith) (omega arith)) x ▸ stores (all (b + 2) (omega arith) (omega arith)) x ▸ none

landed_names : {P : ℕ → Type 0} (b t : ℕ) → Range P b 5 → P t → Names P (record_landed b t)
landed_names b t all x =
    left_names b t all x ⊹ stores (all (b + 3) (omega arith) (omega arith)) x ▸ stores (all (b + 4) (omega arith) (omega arith)) x ▸ none

pub block_names : {P : ℕ → Type 0} (d : ℕ) (body : Steps) → Range P d 8 → Names P body → Names P (block_code d body)
block_names {P} d body all inner =
    let d0 = all d (omega arith) (omega arith) in
    let d6 = all (d + 6) (omega arith) (omega arith) in
    let d7 = all (d + 7) (omega arith) (omega arith) in
    let record_there : Range P (d + 1) 5 = narrowed d 8 (d + 1) 5 all (omega arith) (omega arith) in
    blocks (all (d + 1) (omega arith) (omega arith)) d0
    (exit_names d (d + 1) (d + 6) _ d0 record_there d6 (all (d + 6 + 1) (omega arith) (omega arith))
    ⊹ inner ⊹ left_names (d + 1) (d + 7) record_there d7 ⊹ moves d0 d6 ▸ none)
    (landed_names (d + 1) (d + 6) record_there d6)
    ▸ none

pub catch_names : {P : ℕ → Type 0} (d : ℕ) (body : Steps) → Range P d 8 → Names P body → Names P (catch_code d body)
catch_names {P} d body all inner =
    let d0 = all d (omega arith) (omega arith) in
    let d1 = all (d + 1) (omega arith) (omega arith) in
    let d6 = all (d + 6) (omega arith) (omega arith) in
    let d7 = all (d + 7) (omega arith) (omega arith) in
    let record_there : Range P (d + 1) 5 = narrowed d 8 (d + 1) 5 all (omega arith) (omega arith) in
    blocks d1 d0
    (stores d0 d1 ▸ exit_names d (d + 1) (d + 6) _ d0 record_there d6 (all (d + 6 + 1) (omega arith) (omega arith))
    ⊹ inner ⊹ left_names (d + 1) (d + 7) record_there d7 ⊹ moves d0 d6 ▸ none)
    (landed_names (d + 1) (d + 6) record_there d6)
    ▸ none

pub tagbody_names : {P : ℕ → Type 0} (d segments : ℕ) (bodies : MidCodes) → Range P d 9 → CodesName P bodies → Names P (tagbody_code d segments bodies)
tagbody_names {P} d segments bodies all inner =
    let d0 = all d (omega arith) (omega arith) in
    let d1 = all (d + 1) (omega arith) (omega arith) in
    let d3 = all (d + 3) (omega arith) (omega arith) in
    let d6 = all (d + 6) (omega arith) (omega arith) in
    let d7 = all (d + 7) (omega arith) (omega arith) in
    let d8 = all (d + 8) (omega arith) (omega arith) in
    let record_there : Range P (d + 1) 5 = narrowed d 9 (d + 1) 5 all (omega arith) (omega arith) in
    constants d6 ▸ constants d7 ▸ draws d0 d7
    ▸ repeats d6 d7
    (blocks d1 d7
    (laid_names (d + 1) (d + 7) _ record_there d7 (all (d + 7 + 1) (omega arith) (omega arith))
    ⊹ stores d0 d1 ▸ stores d3 d1 ▸ stores d1 d7
    ▸ (repeats d6 d7 (switches d6 inner ▸ constants d7 ▸ computes d6 d6 d7 ▸ constants d7 ▸ none) none ▸ none)
    ⊹ left_names (d + 1) (d + 7) record_there d7)
    (landed_names (d + 1) (d + 8) record_there d8 ⊹ loads d6 d8 ▸ none)
    ▸ constants d7 ▸ none)
    none
    ▸ constants d0 ▸ none

pub unwind_names : {P : ℕ → Type 0} (at : Placement) (d : ℕ) (form cleanup : Steps) → Range P d 8 → Names P form → Names P cleanup
    → Names P (unwind_code at d form cleanup)
unwind_names {P} at d form cleanup all inner last =
    let d0 = all d (omega arith) (omega arith) in
    let d1 = all (d + 1) (omega arith) (omega arith) in
    let d2 = all (d + 2) (omega arith) (omega arith) in
    let d3 = all (d + 3) (omega arith) (omega arith) in
    let d6 = all (d + 6) (omega arith) (omega arith) in
    let d7 = all (d + 7) (omega arith) (omega arith) in
    let record_there : Range P (d + 1) 5 = narrowed d 8 (d + 1) 5 all (omega arith) (omega arith) in
    blocks d1 d0
    (laid_names (d + 1) (d + 6) _ record_there d6 (all (d + 6 + 1) (omega arith) (omega arith))
    ⊹ inner ⊹ left_names (d + 1) (d + 7) record_there d7 ⊹ moves d0 d6 ▸ constants d1 ▸ none)
    (landed_names (d + 1) (d + 6) record_there d6 ⊹ loads d1 d6 ▸ loads d2 d6 ▸ stores d1 d6 ▸ none)
    ▸ last
    ⊹ constants d3 ▸ chooses d1 d3 (stores d2 d3 ▸ calls d0 (d1, (d0, tt)) ▸ none) none ▸ none

-- exits

pub serial_code_names : {P : ℕ → Type 0} (at : Placement) (site : SitePlace) (serial : Steps) (d t landing : ℕ) → SiteAllowed P site → Names P serial
    → P d → P t → P (t + 1) → P (t + 2) → Names P (by_serial at site serial d t landing)
serial_code_names at site serial d t landing s first a b c e =
    first ⊹ site_names site (t + 1) (t + 2) s c e ⊹ constants c ▸ calls a (b, (a, (c, tt))) ▸ none

landing_names : {P : ℕ → Type 0} (t landing : ℕ) → P t → P (t + 1) → Names P (landing_kept t landing)
landing_names t landing a b = constants a ▸ constants b ▸ stores a b ▸ none

pub own_names : {P : ℕ → Type 0} (at : Placement) (site : SitePlace) (x : OwnExit) (d t landing : ℕ) → SiteAllowed P site → P x.serial → P x.record_register
    → P d → P t → P (t + 1) → P (t + 2) → Names P (to_own at site x d t landing)
own_names {P} at site x d t landing s serial register a b c e =
    elim x.reach as (λ r. Names P (to_own at site (record x { reach = r }) d t landing)) [
      | AtOnce ↦ landing_names t landing b c ⊹ cuts register a ▸ none
      | ByTransfer ↦ landing_names t landing b c ⊹ calls a (register, (a, tt)) ▸ none
      | BySearch ↦ serial_code_names at site _ d t landing s (moves b serial ▸ none) a b c e
    ]
