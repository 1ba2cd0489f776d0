-- A form with a site: its activation has a site that is known, and goes on with the one of before.
use Rattle.std.proofs.Common.{◌≡◌, inr, ℕ, ◌≤◌, List, refl, ap, ◌∙◌, ◌+◌}
use Rattle.base.specs.declared.place.Place.{Place}
use Rattle.lang_meaning.specs.Meaning.{place_of_site}
use Rattle.lang_meaning.specs.State.{DynamicContext}
use Rattle.lang_meaning.specs.Counts.{unit_cost}
use Rattle.flat_language.specs.FlatForm.{FlatForm, sited}
use Rattle.flat_language.specs.FlatMeaning.{mean}
use Rattle.flat_language.specs.FlatState.{FlatEnvironment, FlatState, FlatEvaluated, charged}
use Rattle.mid_code.specs.declared.operation.Test.{Test}
use Rattle.mid_code.specs.Arena.{word_in}
use Rattle.mid_code.specs.State.{Registers, MidState, MidOutcome}
use Rattle.back_lowering.specs.Codes.{lower}
use Rattle.back_lowering.specs.declared.scope.SitePlace.{SitePlace}
use Rattle.back_lowering.specs.declared.scope.SitePlace.TheVariants.{Known, Held}
use Rattle.back_relation.specs.Setting.{Setting}
use Rattle.back_relation.specs.Worlds.{World, Standing}
use Rattle.back_relation.specs.Activation.{FormScope, at_site, IsOwn, RegistersKept, SiteHeld, ActivationStands}
use Rattle.back_relation.specs.Ends.{Reached, Transfers, Ends, done, left_by, full_there, stopped, few_turns, Left}
use Rattle.back_relation.specs.Forms.{Begins, FormEnds, TestEnds, FormStands}
use Rattle.back_values.specs.Sites.{LawOfSites}
use Rattle.back_values.specs.Wholes.{Does, Judges}
use Rattle.back_relation.proofs.Starts.{start_charged}

module _ (setting : Setting) (n : ℕ) (some : 1 ≤ n) {rs valid : List Standing} {s : FormScope} {d m : ℕ} {w : World} {env : FlatEnvironment} {around : DynamicContext} {z : FlatState} {regs : Registers} {y : MidState}
    (b : Begins setting rs valid s d m w env around z regs y) where
  abbrev pub place : Place
  place = place_of_site setting.program.sites n

  abbrev pub there : DynamicContext
  there = record around { site = place }

  abbrev pub known : FormScope
  known = at_site n s

  pub begins_sited : Begins setting rs valid known d m w env there z regs y
  begins_sited = record {
    call = record {
      things = b.call.things;
      around_stands = record {
        current = b.call.around_stands.current;
        link = b.call.around_stands.link;
        handlers_cell = b.call.around_stands.handlers_cell;
        bindings_cell = b.call.around_stands.bindings_cell;
        current_word = b.call.around_stands.current_word;
        link_word = b.call.around_stands.link_word;
        handlers_word = b.call.around_stands.handlers_word;
        bindings_word = b.call.around_stands.bindings_word;
        chain = b.call.around_stands.chain;
        records = b.call.around_stands.records;
        links = b.call.around_stands.links;
        handlers = b.call.around_stands.handlers;
        bindings = b.call.around_stands.bindings;
        ends_at_end = b.call.around_stands.ends_at_end;
        end_record = b.call.around_stands.end_record;
        end_valid = b.call.around_stands.end_valid;
        end_word = b.call.around_stands.end_word;
        end_form = b.call.around_stands.end_form;
        tags_land = b.call.around_stands.tags_land;
      };
      room = b.call.room;
    };
    activation = record {
      slot_count = b.activation.slot_count;
      home_count = b.activation.home_count;
      homes = b.activation.homes;
      slots = b.activation.slots;
      exit_count = b.activation.exit_count;
      flat_count = b.activation.flat_count;
      exits = b.activation.exits;
      exit_forms = b.activation.exit_forms;
      kinds = b.activation.kinds;
      made_by = b.activation.made_by;
      self = b.activation.self;
      method = b.activation.method;
      site = inr (some, refl);
    };
    scope = record {
      slots_below = b.scope.slots_below;
      slots_apart = b.scope.slots_apart;
      exits = b.scope.exits;
      self = b.scope.self;
      method = b.scope.method;
      site = λ r e. absurd (cc e);
    };
    method_there = b.method_there;
    first = b.first;
  }

  site_back : (p : SitePlace) (regs' : Registers) → ((r : ℕ) → p ≡ Held r → IsOwn s.code d r) → RegistersKept s.code d regs regs' → SiteHeld setting regs p around.site → SiteHeld setting regs' p around.site
  site_back (Known i) regs' own k h = h
  site_back (Held r) regs' own k h = let is = own r refl in (h.0, ap word_in (k.same r is.0 is.1) ∙ h.1, h.2)

  registers_back : {regs' : Registers} → RegistersKept known.code d regs regs' → RegistersKept s.code d regs regs'
  registers_back k = record { count = k.count; same = k.same }

  activation_back :
      {w' : World} {z' : FlatState} {regs' : Registers} {y' : MidState} → RegistersKept s.code d regs regs' → ActivationStands setting known rs valid w' env there z' regs' y'
      → ActivationStands setting s rs valid w' env around z' regs' y'
  activation_back {regs' = regs'} k t = record {
    slot_count = t.slot_count;
    home_count = t.home_count;
    homes = t.homes;
    slots = t.slots;
    exit_count = t.exit_count;
    flat_count = t.flat_count;
    exits = t.exits;
    exit_forms = t.exit_forms;
    kinds = t.kinds;
    made_by = t.made_by;
    self = t.self;
    method = t.method;
    site = site_back s.code.site regs' b.scope.site k b.activation.site;
  }

  reached_back :
      {credit : ℕ} {w' : World} {z' : FlatState} {regs' : Registers} {y' : MidState} → Reached setting credit known d rs valid w w' env there z z' regs regs' y y'
      → Reached setting credit s d rs valid w w' env around z z' regs regs' y y'
  reached_back x = record {
    kept = record {
      world = x.kept.world;
      activation = activation_back (registers_back x.kept.registers) x.kept.activation;
      registers = registers_back x.kept.registers;
    };
    back = x.back;
  }

  transfers_back : {credit : ℕ} {r : FlatEvaluated} {q : MidOutcome} → Transfers setting credit rs valid w there z y r q → Transfers setting credit rs valid w around z y r q
  transfers_back t = record {
    exit_number = t.exit_number;
    result = t.result;
    landing = t.landing;
    outcome = t.outcome;
    target = t.target;
    valid_target = t.valid_target;
    to = t.to;
    outer = t.outer;
    stop = t.stop;
    word = t.word;
    end = t.end;
    blocks = t.blocks;
    w' = t.w';
    of_value = t.of_value;
    world = t.world;
    charged = t.charged;
    paid = t.paid;
    pending = t.pending;
    landing_word = t.landing_word;
    landing_stands = t.landing_stands;
    landing_is = t.landing_is;
    lands = t.lands;
  }

  ends_back :
      {D E : Type 0} {credit turns : ℕ} {r : FlatEvaluated} {q : MidOutcome} → (D → E) → Ends setting (credit + unit_cost) D (Left setting credit rs valid known d w env there z regs y r q) turns z y r q
      → Ends setting (credit + unit_cost) E (Left setting credit rs valid s d w env around z regs y r q) turns z y r q
  unfolding transfers_back
  ends_back f (done x) = done (f x)
  ends_back f (left_by x) =
      left_by (record {
        transfer = transfers_back x.transfer;
        activation = activation_back (registers_back x.registers) x.activation;
        registers = registers_back x.registers;
      })
  ends_back f (full_there x) = full_there x
  ends_back f (stopped x) = stopped x
  ends_back f (few_turns x) = few_turns x

  pub form_back :
      {credit turns : ℕ} {r : FlatEvaluated} {q : MidOutcome} → FormEnds setting credit turns rs valid known d w env there z regs y r q
      → FormEnds setting credit turns rs valid s d w env around z regs y r q
  form_back e =
      ends_back
      (λ x. record {
        result = x.result;
        outcome = x.outcome;
        end = x.end;
        w' = x.w';
        reached = reached_back x.reached;
        word = x.word;
        in_register = x.in_register;
        of_value = x.of_value;
      })
      e

  pub test_back :
      {credit turns : ℕ} {t : Test} {r : FlatEvaluated} {q : MidOutcome} → TestEnds setting credit turns rs valid known d w env there z regs y t r q
      → TestEnds setting credit turns rs valid s d w env around z regs y t r q
  test_back e =
      ends_back
      (λ x. record {
        result = x.result;
        outcome = x.outcome;
        end = x.end;
        w' = x.w';
        reached = reached_back x.reached;
        first = x.first;
        second = x.second;
        first_word = x.first_word;
        second_word = x.second_word;
        judged = x.judged;
      })
      e

-- where the form begins behind its first unit
abbrev charged_begins :
    (setting : Setting) (turns : ℕ) {rs valid : List Standing} {s : FormScope} {d m : ℕ} {w : World} {env : FlatEnvironment} {around : DynamicContext} {z : FlatState} {regs : Registers}
    {y : MidState} → Begins setting rs valid s d m w env around z regs y → Begins setting rs valid s d m w env around (charged 1 z) regs y
charged_begins setting turns {rs} {valid} {s} {d} {m} {w} {env} {around} {z} {regs} {y} b =
    (start_charged setting (record {
      turns = turns;
      rs = rs;
      valid = valid;
      s = s;
      d = d;
      n = m;
      w = w;
      env = env;
      around = around;
      z = z;
      regs = regs;
      y = y;
      begins = b;
    }) 1).begins

stands_sited : (setting : Setting) (s : FormScope) (first n : ℕ) (f : FlatForm) → FormStands setting s first (sited n f) → FormStands setting (at_site n s) first f
stands_sited setting s first n f h = record { stands = h.stands; fits = h.fits.2; leads = h.leads; placed = h.placed; forms_known = h.forms_known }

sited_does : (setting : Setting) (k turns n : ℕ) (f : FlatForm) → Does setting k turns f → Does setting k turns (sited n f)
unfolding mean lower
sited_does setting k turns n f does rs valid s d m first w env around z regs y stands begins registers words =
    form_back setting n stands.fits.0 (charged_begins setting turns begins)
    (does rs valid (at_site n s) d m first w env (record around { site = place_of_site setting.program.sites n }) z regs y (stands_sited setting s first n f stands)
    (begins_sited setting n stands.fits.0 begins) registers words)

sited_judges : (setting : Setting) (k turns n : ℕ) (f : FlatForm) → Judges setting k turns f → Judges setting k turns (sited n f)
unfolding mean lower
sited_judges setting k turns n f judges rs valid s d m first w env around z regs y stands begins registers words =
    test_back setting n stands.fits.0 (charged_begins setting turns begins)
    (judges rs valid (at_site n s) d m first w env (record around { site = place_of_site setting.program.sites n }) z regs y (stands_sited setting s first n f stands)
    (begins_sited setting n stands.fits.0 begins) registers words)

pub sites_law : (setting : Setting) (k turns : ℕ) → LawOfSites setting k turns
sites_law setting k turns = record { value = λ n f does. sited_does setting k turns n f does; test = λ n f judges. sited_judges setting k turns n f judges }
