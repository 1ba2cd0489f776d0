-- `return-from` and `go` wherever they stand: to an own exit that may be left at once, by a transfer or by a search, and to one that was captured.
use Rattle.std.proofs.Common.{◌≡◌, ◌⊎◌, inl, inr, ℕ, ◌+◌, ◌<◌, ◌≤◌, true, List, [], ◌∷◌, ◌++◌, length, Some, None, refl, subst, arith}
use Rattle.std.specs.Prelude.{slice_get, get_or}
use Rattle.std.proofs.lemmas.Option.{slice_get_cases}
use Rattle.lang_meaning.specs.Standing.{is_block, is_segment}
use Rattle.flat_language.specs.declared.place.ExitPlace.TheVariants as place
use Rattle.flat_language.specs.FlatExits.{made_by}
use Rattle.flat_language.specs.FlatForm.{FlatForm, return_from, go}
use Rattle.mid_code.specs.MidCode.{cut_to, code_of}
use Rattle.mid_arena.specs.Tags.{nil_word}
use Rattle.back_lowering.specs.Codes.{lower, exit_code}
use Rattle.back_lowering.specs.declared.scope.OwnExit.{OwnExit}
use Rattle.back_lowering.specs.declared.scope.Reach.{Reach}
use Rattle.back_lowering.specs.declared.scope.Reach.TheVariants.{AtOnce, ByTransfer, BySearch}
use Rattle.back_lowering.specs.declared.scope.Scope.{Scope}
use Rattle.back_lowering.specs.declared.scope.SitePlace.{SitePlace}
use Rattle.back_lowering.specs.declared.scope.SitePlace.TheVariants.{Known, Held}
use Rattle.back_lowering.specs.Leaves.{site_stored, captured_into}
use Rattle.back_lowering.specs.Records.{by_serial, landing_kept}
use Rattle.back_lowering.specs.Registers.{of_code, enough_for}
use Rattle.back_lowering.specs.Routines.{leave_routine, transfer_routine}
use Rattle.back_lowering.specs.Steps.{Steps, constant, move, call}
use Rattle.back_relation.specs.Setting.{Setting}
use Rattle.back_relation.specs.Placed.{IsPlaced}
use Rattle.back_relation.specs.Room.{routine_words}
use Rattle.back_relation.specs.Activation.{FormScope}
use Rattle.back_relation.specs.Points.{Here}
use Rattle.back_relation.proofs.Fitting.{registers_front, registers_behind}
use Rattle.back_relation.proofs.Points.{does_here}
use Rattle.back_exits.proofs.AtOnce.{returns_at_once_law, goes_at_once_law}
use Rattle.back_exits.proofs.Returns.{returns_by_transfer_law, goes_by_transfer_law}
use Rattle.back_exits.specs.Cleanups.{TransferGoes}
use Rattle.back_sought_exits.specs.Sought.{LeavingDoes, LawOfWholeReturns, LawOfWholeGoes}
use Rattle.back_sought_exits.proofs.Seeking.{search_code}
use Rattle.back_sought_exits.proofs.Leaving.{returns_by_search_law, goes_by_search_law, returns_to_captured_law, goes_to_captured_law}

-- ---- the registers that the code names

last_register : (r : ℕ) (size : ℕ) → enough_for (r ∷ []) ≤ size → r + 1 ≤ size
last_register r size h = omega (arith, h)

-- the second register of code that stores the site
site_register : (p : SitePlace) (u t size : ℕ) → enough_for (of_code (code_of (site_stored p u t))) ≤ size → t + 1 ≤ size
site_register (Known n) u t size h = omega (arith, h)
site_register (Held r) u t size h = omega (arith, h)

search_width : (setting : Setting) (p : SitePlace) (serial : Steps) (d landing size : ℕ) → enough_for (of_code (code_of (by_serial setting.at p serial d (d + 1) landing))) ≤ size → d + 4 ≤ size
search_width setting p serial d landing size h =
    let calling : Steps = constant (d + 1 + 1) landing ∷ call d (leave_routine setting.at) ((d + 1) ∷ d ∷ (d + 1 + 1) ∷ []) ∷ [] in
    let storing : Steps = site_stored p (d + 1 + 1) (d + 1 + 2) in
    let last = site_register p (d + 1 + 1) (d + 1 + 2) size (registers_front storing calling size (registers_behind serial (storing ++ calling) size h)) in
    omega (arith, last)

kept_width : (d landing size : ℕ) (rest : Steps) → enough_for (of_code (code_of (landing_kept (d + 1) landing ++ rest))) ≤ size → d + 3 ≤ size
kept_width d landing size rest h =
    let front : enough_for (of_code (code_of (landing_kept (d + 1) landing))) ≤ size = registers_front (landing_kept (d + 1) landing) rest size h in
    omega (arith, front)

cut_code : (setting : Setting) (s : Scope) (d landing i : ℕ) (x : OwnExit) → slice_get s.exits i ≡ Some x → x.reach ≡ AtOnce
    → exit_code setting.names setting.at setting.program s d landing (place.Own i) ≡ landing_kept (d + 1) landing ++ (cut_to x.record_register d ∷ [])
cut_code setting s d landing i x e f = rw e (rw f refl)

transfer_code : (setting : Setting) (s : Scope) (d landing i : ℕ) (x : OwnExit) → slice_get s.exits i ≡ Some x → x.reach ≡ ByTransfer
    → exit_code setting.names setting.at setting.program s d landing (place.Own i)
    ≡ landing_kept (d + 1) landing ++ (call d (transfer_routine setting.at) (x.record_register ∷ d ∷ []) ∷ [])
transfer_code setting s d landing i x e f = rw e (rw f refl)

module _ (setting : Setting) (s : FormScope) (d landing size i : ℕ) (x : OwnExit) (found : slice_get s.code.exits i ≡ Some x)
    (names : enough_for (of_code (code_of (exit_code setting.names setting.at setting.program s.code d landing (place.Own i)))) ≤ size) where
  names_of : (ss : Steps) → exit_code setting.names setting.at setting.program s.code d landing (place.Own i) ≡ ss → enough_for (of_code (code_of ss)) ≤ size
  names_of ss same = subst (λ o. enough_for (of_code (code_of o)) ≤ size) same names

  at_once_width : x.reach ≡ AtOnce → d + 3 ≤ size
  at_once_width e =
      kept_width d landing size (cut_to x.record_register d ∷ [])
      (names_of (landing_kept (d + 1) landing ++ (cut_to x.record_register d ∷ [])) (cut_code setting s.code d landing i x found e))

  by_transfer_width : x.reach ≡ ByTransfer → d + 3 ≤ size
  by_transfer_width e =
      kept_width d landing size (call d (transfer_routine setting.at) (x.record_register ∷ d ∷ []) ∷ [])
      (names_of (landing_kept (d + 1) landing ++ (call d (transfer_routine setting.at) (x.record_register ∷ d ∷ []) ∷ [])) (transfer_code setting s.code d landing i x found e))

  by_search_width : x.reach ≡ BySearch → d + 4 ≤ size
  by_search_width e =
      search_width setting s.code.site (move (d + 1) x.serial ∷ []) d landing size
      (names_of (by_serial setting.at s.code.site (move (d + 1) x.serial ∷ []) d (d + 1) landing) (search_code setting s.code d landing i x found e))

-- an own exit that stands is among those whose registers are known
own_there : (xs : List OwnExit) (es : List ℕ) (count i : ℕ) → length xs ≡ length es → count ≡ length es → i < count → (x : OwnExit) × (slice_get xs i ≡ Some x)
own_there xs es count i same flat low = by (slice_get_cases xs i).1
  where
    by : ((x : OwnExit) × (i < length xs) × (slice_get xs i ≡ Some x) × (get_or xs i x ≡ x)) ⊎ ((length xs ≤ i) × (slice_get xs i ≡ None)) → (x : OwnExit) × (slice_get xs i ≡ Some x)
    by (inl h) = (h.0, h.2)
    by (inr h) = let past = h.0 in absurd (omega (arith, past, same, flat, low))

-- ---- `return-from`

module _ (setting : Setting) (s : FormScope) (d n size k turns : ℕ) (placed : IsPlaced setting) (goes : TransferGoes setting k turns) (does : LeavingDoes setting k turns)
    (enough_words : routine_words ≤ n) where
  own_return :
      (i : ℕ) (x : OwnExit) (f : FlatForm) → slice_get s.code.exits i ≡ Some x
      → enough_for (of_code (code_of (exit_code setting.names setting.at setting.program s.code d 0 (place.Own i)))) ≤ size → is_block (made_by s.exits (place.Own i)) ≡ true
      → Here setting s d n size k turns f → Here setting s d n size k turns (return_from (place.Own i) f)
  own_return i x f found names block here = by x.reach refl
    where
      by : (r : Reach) → x.reach ≡ r → Here setting s d n size k turns (return_from (place.Own i) f)
      by AtOnce e = returns_at_once_law setting s d n size k turns i x f placed (at_once_width setting s d 0 size i x found names e) found e block here
      by ByTransfer e = returns_by_transfer_law setting s d n size k turns i x f placed (by_transfer_width setting s d 0 size i x found names e) enough_words goes found e block here
      by BySearch e = returns_by_search_law setting s d n size k turns i x f (by_search_width setting s d 0 size i x found names e) enough_words does found e block here

  own_go :
      (i segment : ℕ) (x : OwnExit) → slice_get s.code.exits i ≡ Some x
      → enough_for (of_code (code_of (exit_code setting.names setting.at setting.program s.code d segment (place.Own i)))) ≤ size → is_segment segment (made_by s.exits (place.Own i)) ≡ true
      → Here setting s d n size k turns (go (place.Own i) segment)
  own_go i segment x found names is_there = by x.reach refl
    where
      by : (r : Reach) → x.reach ≡ r → Here setting s d n size k turns (go (place.Own i) segment)
      by AtOnce e = goes_at_once_law setting s d n size k turns i segment x placed (at_once_width setting s d segment size i x found names e) found e is_there
      by ByTransfer e = goes_by_transfer_law setting s d n size k turns i segment x placed (by_transfer_width setting s d segment size i x found names e) enough_words goes found e is_there
      by BySearch e = goes_by_search_law setting s d n size k turns i segment x (by_search_width setting s d segment size i x found names e) enough_words does found e is_there

pub whole_returns_law : LawOfWholeReturns
unfolding lower
whole_returns_law setting k turns (place.Own i) f placed goes leaves does rs valid s d n first w env around z regs y stands begins registers words =
    let steps : Steps = (lower setting.names setting.at setting.program s.code d f).value in
    let code : Steps = exit_code setting.names setting.at setting.program s.code d 0 (place.Own i) in
    let own = own_there s.code.exits env.exits s.flat.exits i begins.activation.exit_count begins.activation.flat_count stands.stands.0 in
    own_return setting s d n (length regs) k turns placed goes leaves (omega (arith, words)) i own.0 f own.1 (registers_behind steps code (length regs) registers) stands.leads.0
    (does_here setting s d n (length regs) k turns f first does
    (record { stands = stands.stands.1; fits = stands.fits; leads = stands.leads.1; placed = stands.placed; forms_known = stands.forms_known })
    (registers_front steps code (length regs) registers) (omega (arith, words)))
    (record { rs = rs; valid = valid; w = w; env = env; around = around; z = z; regs = regs; y = y; begins = begins; count = refl })
whole_returns_law setting k turns (place.Captured i) f placed goes leaves does rs valid s d n first w env around z regs y stands begins registers words =
    let steps : Steps = (lower setting.names setting.at setting.program s.code d f).value in
    let code : Steps = exit_code setting.names setting.at setting.program s.code d 0 (place.Captured i) in
    returns_to_captured_law setting s d n (length regs) k turns i f
    (search_width setting s.code.site (captured_into s.code (d + 1) i) d 0 (length regs) (registers_behind steps code (length regs) registers)) (omega (arith, words)) leaves stands.stands.0
    stands.leads.0
    (does_here setting s d n (length regs) k turns f first does
    (record { stands = stands.stands.1; fits = stands.fits; leads = stands.leads.1; placed = stands.placed; forms_known = stands.forms_known })
    (registers_front steps code (length regs) registers) (omega (arith, words)))
    (record { rs = rs; valid = valid; w = w; env = env; around = around; z = z; regs = regs; y = y; begins = begins; count = refl })

pub whole_goes_law : LawOfWholeGoes
unfolding lower
whole_goes_law setting k turns (place.Own i) segment placed goes leaves rs valid s d n first w env around z regs y stands begins registers words =
    let code : Steps = exit_code setting.names setting.at setting.program s.code d segment (place.Own i) in
    let own = own_there s.code.exits env.exits s.flat.exits i begins.activation.exit_count begins.activation.flat_count stands.stands in
    own_go setting s d n (length regs) k turns placed goes leaves (omega (arith, words)) i segment own.0 own.1
    (registers_behind (constant d nil_word ∷ []) code (length regs) registers) stands.leads
    (record { rs = rs; valid = valid; w = w; env = env; around = around; z = z; regs = regs; y = y; begins = begins; count = refl })
whole_goes_law setting k turns (place.Captured i) segment placed goes leaves rs valid s d n first w env around z regs y stands begins registers words =
    let code : Steps = exit_code setting.names setting.at setting.program s.code d segment (place.Captured i) in
    goes_to_captured_law setting s d n (length regs) k turns i segment
    (search_width setting s.code.site (captured_into s.code (d + 1) i) d segment (length regs) (registers_behind (constant d nil_word ∷ []) code (length regs) registers)) (omega (arith, words))
    leaves stands.stands stands.leads
    (record { rs = rs; valid = valid; w = w; env = env; around = around; z = z; regs = regs; y = y; begins = begins; count = refl })
