-- The site is stored, and a routine is called.
use Rattle.std.proofs.Common.{◌≡◌, ℕ, ◌+◌, ◌<◌, ◌≤◌, List, [], ◌∷◌, ◌++◌, length, Some, refl, sym, ap, ◌∙◌, subst, arith}
use Rattle.std.specs.Prelude.{slice_get, slice_set}
use Rattle.std.proofs.Math.ListN.{length-set}
use Rattle.flat_language.specs.FlatState.{FlatEvaluated}
use Rattle.flat_laws.specs.FlatLater.{FlatLater}
use Rattle.mid_code.specs.Arena.{word_in}
use Rattle.mid_code.specs.Meaning.{Context, exec, exec_step}
use Rattle.mid_code.specs.MidCode.{code_of}
use Rattle.mid_code.specs.State.{Registers, falls, ends, MidState}
use Rattle.mid_arena.proofs.Lists.{set_elsewhere}
use Rattle.mid_arena.proofs.Registers.{register_here, register_beside}
use Rattle.mid_arena.proofs.Running.{RunsTo, and_then, none_left, costing, parts_then, constant_falls, store_falls, address_above}
use Rattle.back_lowering.specs.declared.scope.SitePlace.{SitePlace}
use Rattle.back_lowering.specs.declared.scope.SitePlace.TheVariants.{Known, Held}
use Rattle.back_lowering.specs.ControlWords.{site_address}
use Rattle.back_lowering.specs.Leaves.{site_stored}
use Rattle.back_lowering.specs.Steps.{Steps, constant, call}
use Rattle.back_relation.specs.Setting.{Setting}
use Rattle.back_relation.specs.Room.{failing_words}
use Rattle.back_relation.specs.Around.{SiteStored}
use Rattle.back_relation.specs.Things.{SiteIs}
use Rattle.back_relation.specs.Activation.{SiteHeld}
use Rattle.back_relation.specs.Ends.{WorldKept}
use Rattle.back_relation.specs.Forms.{code_at}
use Rattle.back_relation.specs.RoutineClaims.{Does}
use Rattle.back_relation.specs.Starts.{Start, EndsFrom, ReachedFrom}
use Rattle.back_relation.proofs.Activations.{activation_later}
use Rattle.back_relation.proofs.Parts.{single_step}
use Rattle.back_relation.proofs.Starts.{start_after}
use Rattle.back_relation.proofs.Then.{ends_then}
use Rattle.back_calling.specs.Calling.{WordsIn, call_cost, Between, AllButTwo, LawOfSitedCalls, LawOfFailing}
use Rattle.back_calling.specs.Storing.{IsControl, stored_at, standing_world}
use Rattle.back_calling.proofs.Formed.{form_calls_law}
use Rattle.back_calling.proofs.Growing.{signal_later, domain_error_later}
use Rattle.back_calling.proofs.Storing.{control_lent, word_stored, world_stored, around_stored, same_memory}

pub site_control : IsControl site_address
site_control = record { low = omega arith; high = omega arith; no_serial = λ same. omega (arith, same) }

-- what the storing of the site does
pub record SiteRuns (setting : Setting) (c : Context) (a : Start setting) (u t : ℕ) (p : SitePlace) : Type 0 where
  pub regs : Registers
  pub number : ℕ
  pub paid : ℕ
  pub runs : RunsTo c (code_of (site_stored p u t)) a.regs a.y (ends falls regs (stored_at site_address number paid a.y))
  pub few : paid ≤ a.y.cost + 20
  pub others : AllButTwo u t a.regs regs
  pub is : SiteIs setting number a.around.site

module _ (setting : Setting) (c : Context) (a : Start setting) (u t : ℕ) (low : a.d ≤ u) (before : u < t) (there : t < length a.regs) where
  site_address_here : (n : ℕ) → n ≡ 0 → n + site_address ≡ site_address
  site_address_here n e = omega (arith, e)

  site_by : (p : SitePlace) → a.s.code.site ≡ p → SiteHeld setting a.regs p a.around.site → SiteRuns setting c a u t p
  site_by (Known n) same is =
      let first : Registers = slice_set a.regs u (Some n) in
      let size : length first ≡ length a.regs = length-set a.regs u (Some n) in
      record {
        regs = slice_set first t (Some 0);
        number = n;
        paid = a.y.cost + 20;
        runs =
            costing {n = a.y.cost + 20}
            (and_then constant_falls
            (and_then constant_falls
            (and_then
            (store_falls (register_beside first t u (Some 0) (λ e. omega arith) ∙ register_here a.regs u n (omega arith)) (register_here first t 0 (omega arith))
            (address_above 0 site_address site_address (omega arith) (omega arith))
            (control_lent setting a.begins.call.things site_address (omega arith) (omega arith) refl))
            none_left)))
            (omega arith);
        few = omega arith;
        others = record {
          count = length-set first t (Some 0) ∙ size;
          same = λ i no_u no_t. set_elsewhere first t i (Some 0) (λ e. no_t (sym e)) ∙ set_elsewhere a.regs u i (Some n) (λ e. no_u (sym e));
        };
        is = is;
      }
  site_by (Held r) same is =
      let own = (a.begins.scope.site r same).0 in
      record {
        regs = slice_set a.regs t (Some 0);
        number = is.0;
        paid = a.y.cost + 14;
        runs =
            costing {n = a.y.cost + 14}
            (and_then constant_falls
            (and_then
            (store_falls (register_beside a.regs t r (Some 0) (λ e. omega (arith, e, own)) ∙ is.1) (register_here a.regs t 0 there)
            (address_above 0 site_address site_address (omega arith) (omega arith))
            (control_lent setting a.begins.call.things site_address (omega arith) (omega arith) refl))
            none_left))
            (omega arith);
        few = omega arith;
        others = record { count = length-set a.regs t (Some 0); same = λ i no_u no_t. set_elsewhere a.regs t i (Some 0) (λ e. no_t (sym e)) };
        is = is.2;
      }

  -- **the site is stored**
  pub site_runs : SiteRuns setting c a u t a.s.code.site
  site_runs = site_by a.s.code.site refl a.begins.activation.site

-- from a start to a point where a site was stored, and registers behind the first ones were set
pub reached_sited :
    (setting : Setting) (a : Start setting) (d number paid credit : ℕ) (regs : Registers) → a.d ≤ d → paid ≤ a.y.cost + credit
    → ((i : ℕ) → i < d → slice_get regs i ≡ slice_get a.regs i) → length regs ≡ length a.regs
    → ReachedFrom setting credit a d (standing_world a.w a.y) a.z regs (stored_at site_address number paid a.y)
reached_sited setting a d number paid credit regs low few below count =
    let t = a.begins.call.things in
    let world : WorldKept setting a.w (standing_world a.w a.y) a.z a.z a.y (stored_at site_address number paid a.y) =
    world_stored setting t site_address number paid site_control refl (λ same. omega (arith, same)) in
    record {
      kept = record {
        world = world;
        activation =
            activation_later setting {d = a.d} {z = a.z} {z' = a.z} {y = a.y} {y' = stored_at site_address number paid a.y} world.later
            (record { blocks = refl; size = same_memory setting t site_address number paid site_control refl; stack = world.stack }) refl (λ n cs k. k)
            (λ r h. ap word_in (below r (omega arith))) a.begins.scope a.begins.activation;
        registers = record { count = count; same = λ i h n. below i h };
      };
      back =
          around_stored setting t site_address number paid site_control refl credit few (λ same. omega (arith, same)) (λ same. omega (arith, same))
          (λ same. omega (arith, same)) (λ same. omega (arith, same));
    }

module _ (setting : Setting) (k : ℕ) (a : Start setting) (total room credit cost d u t routine : ℕ) (steps : Steps) (arguments ws : List ℕ) (r : FlatEvaluated) where
  abbrev c : Context
  c = code_at setting k a.turns

  abbrev code : Steps
  code = site_stored a.s.code.site u t ++ (steps ++ (call d routine arguments ∷ []))

  sited :
      (enough : credit + 20 + cost + call_cost arguments ≤ total) (low : a.d ≤ d) (high : d ≤ u) (before : u < t) (there : t < length a.regs) → room ≤ a.n → FlatLater a.z r.state
      → (s : SiteRuns setting c a u t a.s.code.site) → Between c steps s.regs (stored_at site_address s.number s.paid a.y) d cost arguments ws
      → ((number paid : ℕ) → Does setting k a.turns a.rs a.valid (standing_world a.w a.y) a.around a.z (stored_at site_address number paid a.y) room credit routine ws r)
      → EndsFrom setting total a d r (exec c (code_of code) a.regs a.y)
  sited enough low high before there words grows s b does =
      let size : length b.regs' ≡ length a.regs = b.count ∙ s.others.count in
      let below : (i : ℕ) → i < d → slice_get b.regs' i ≡ slice_get a.regs i =
      λ i h. b.below i h ∙ s.others.same i (λ e. omega (arith, e, h, high)) (λ e. omega (arith, e, h, high, before)) in
      let reached = reached_sited setting a d s.number (s.paid + cost) (20 + cost) b.regs' low (let few = s.few in omega (arith, few)) below size in
      let at_call = reached_sited setting a d s.number (s.paid + cost + call_cost arguments) (20 + cost + call_cost arguments) b.regs' low (let few = s.few in omega (arith, few)) below size in
      let b2 : Start setting = start_after setting a d a.d a.n low (omega arith) (omega arith) a.begins.first reached in
      let b3 : Start setting = start_after setting a d a.d room low (omega arith) words a.begins.first at_call in
      let site : SiteStored setting a.around b3.y =
      (s.number, word_stored setting a.begins.call.things site_address s.number (s.paid + cost + call_cost arguments) site_control refl, s.is) in
      let run : RunsTo c (code_of code) a.regs a.y (exec_step c (call d routine arguments) b.regs' b2.y) =
      parts_then (site_stored a.s.code.site u t) (steps ++ (call d routine arguments ∷ [])) s.runs
      (parts_then steps (call d routine arguments ∷ []) (record { same = b.runs }) (record { same = single_step c (call d routine arguments) b.regs' b2.y })) in
      subst (λ q. EndsFrom setting total a d r q) (sym run.same)
      (ends_then setting {d = d} {d1 = d} (omega arith) reached {c2 = credit + call_cost arguments} {c = total} (omega arith) (omega arith)
      ((form_calls_law setting).by_number c b2 credit d routine arguments ws r low (omega (arith, size, there, high, before)) b.arguments_there grows
      (does s.number (s.paid + cost + call_cost arguments) site b3.begins.call)))

pub sited_calls_law : (setting : Setting) → LawOfSitedCalls setting
sited_calls_law setting k a total room credit cost d u t routine steps arguments ws r enough low high before there words grows between does =
    let s = site_runs setting (code_at setting k a.turns) a u t (omega (arith, low, high)) before there in
    sited setting k a total room credit cost d u t routine steps arguments ws r enough low high before there words grows s (between s.regs s.number s.paid s.others) does

-- ---- steps between

module _ (c : Context) (regs : Registers) (y : MidState) where
  nothing_between : (d : ℕ) (arguments ws : List ℕ) → WordsIn regs arguments ws → Between c [] regs y d 0 arguments ws
  nothing_between d arguments ws there = record {
    regs' = regs;
    runs = (costing none_left (omega arith)).same;
    arguments_there = there;
    below = λ i h. refl;
    count = refl;
  }

  constant_between :
      (d word : ℕ) (arguments ws : List ℕ) → WordsIn (slice_set regs d (Some word)) arguments ws → Between c (constant d word ∷ []) regs y d 6 arguments ws
  constant_between d word arguments ws there = record {
    regs' = slice_set regs d (Some word);
    runs = (and_then constant_falls none_left).same;
    arguments_there = there;
    below = λ i h. set_elsewhere regs d i (Some word) (λ e. omega (arith, e, h));
    count = length-set regs d (Some word);
  }

  constants_between :
      (d first second : ℕ) (arguments ws : List ℕ) → WordsIn (slice_set (slice_set regs d (Some first)) (d + 1) (Some second)) arguments ws
      → Between c (constant d first ∷ constant (d + 1) second ∷ []) regs y d 12 arguments ws
  constants_between d first second arguments ws there = record {
    regs' = slice_set (slice_set regs d (Some first)) (d + 1) (Some second);
    runs = (costing (and_then constant_falls (and_then constant_falls none_left)) (omega arith)).same;
    arguments_there = there;
    below = λ i h.
        set_elsewhere (slice_set regs d (Some first)) (d + 1) i (Some second) (λ e. omega (arith, e, h)) ∙ set_elsewhere regs d i (Some first) (λ e. omega (arith, e, h));
    count = length-set (slice_set regs d (Some first)) (d + 1) (Some second) ∙ length-set regs d (Some first);
  }

pub failing_law : (setting : Setting) → LawOfFailing setting
failing_law setting = record {
  class_alone = λ k credit a d class low there words does.
      sited_calls_law setting k a (credit + 72) failing_words credit 6 d d (d + 1) _ (constant d class ∷ []) (d ∷ []) (class ∷ []) _ (omega arith) low (omega arith) (omega arith) there words
      (signal_later setting k class [] a.around a.z)
      (λ regs number paid others.
      let size = others.count in
      constant_between (code_at setting k a.turns) regs (stored_at site_address number paid a.y) d class (d ∷ []) (class ∷ [])
      (register_here regs d class (omega (arith, size, there)), tt))
      does;
  with_word = λ k credit a d class word v low there words does.
      sited_calls_law setting k a (credit + 84) failing_words credit 12 d d (d + 1) _ (constant d class ∷ constant (d + 1) word ∷ []) (d ∷ (d + 1) ∷ []) (class ∷ word ∷ []) _ (omega arith) low (omega arith) (omega arith) there
      words (signal_later setting k class (v ∷ []) a.around a.z)
      (λ regs number paid others.
      let size = others.count in
      let first = slice_set regs d (Some class) in
      let same : length first ≡ length regs = length-set regs d (Some class) in
      constants_between (code_at setting k a.turns) regs (stored_at site_address number paid a.y) d class word (d ∷ (d + 1) ∷ []) (class ∷ word ∷ []) (
        register_beside first (d + 1) d (Some word) (λ e. omega arith) ∙ register_here regs d class (omega (arith, size, there)),
        (register_here first (d + 1) word (omega (arith, size, same, there)), tt),
      ))
      does;
  domain = λ k credit a d of class word v low before there words held does.
      sited_calls_law setting k a (credit + 78) failing_words credit 6 d d (d + 1) _ (constant d class ∷ []) (of ∷ d ∷ []) (word ∷ class ∷ []) _ (omega arith) low (omega arith) (omega arith) there words
      (domain_error_later setting k v class a.around a.z)
      (λ regs number paid others.
      let size = others.count in
      constant_between (code_at setting k a.turns) regs (stored_at site_address number paid a.y) d class (of ∷ d ∷ []) (word ∷ class ∷ []) (
        register_beside regs d of (Some class) (λ e. omega (arith, e, before)) ∙ ap word_in (others.same of (λ e. omega (arith, e, before)) (λ e. omega (arith, e, before))) ∙ held,
        (register_here regs d class (omega (arith, size, there)), tt),
      ))
      does;
  two = λ k room credit a d routine first second r low there words held_first held_second grows does.
      sited_calls_law setting k a (credit + 72) room credit 0 d (d + 2) (d + 3) routine [] (d ∷ (d + 1) ∷ []) (first ∷ second ∷ []) r (omega arith) low (omega arith) (omega arith) there words grows
      (λ regs number paid others.
      nothing_between (code_at setting k a.turns) regs (stored_at site_address number paid a.y) d (d ∷ (d + 1) ∷ []) (first ∷ second ∷ []) (
        ap word_in (others.same d (λ e. omega arith) (λ e. omega arith)) ∙ held_first,
        (ap word_in (others.same (d + 1) (λ e. omega arith) (λ e. omega arith)) ∙ held_second, tt),
      ))
      does;
}
