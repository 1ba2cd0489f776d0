-- What is said of a state is said of it with another frame; and what a form comes to, whose word is returned.
use Rattle.std.proofs.Common.{ℕ, ◌+◌, List, [], ◌∷◌, refl, sym, ◌∙◌, subst, arith}
use Rattle.base.specs.declared.place.Place.{Place}
use Rattle.lang_meaning.specs.State.{DynamicContext}
use Rattle.flat_language.specs.FlatState.{FrameSlot, FlatEnvironment, FlatState, FlatEvaluated, with_frame}
use Rattle.mid_code.specs.Costs.{return_cost}
use Rattle.mid_code.specs.Law.{Grown}
use Rattle.mid_code.specs.Meaning.{Context, exec}
use Rattle.mid_code.specs.MidCode.{return_word, code_of}
use Rattle.mid_code.specs.State.{Registers, returns, cuts, ends, MidState, MidOutcome, Next}
use Rattle.mid_code.specs.State.{charged as mid_charged, go_on as mid_go_on}
use Rattle.mid_code.proofs.Growth.{go_on_grown, same_grown}
use Rattle.mid_arena.proofs.Running.{RunsTo, and_ends, return_ends}
use Rattle.back_relation.specs.Setting.{Setting}
use Rattle.back_relation.specs.Worlds.{World, Standing}
use Rattle.back_relation.specs.Things.{Things}
use Rattle.back_relation.specs.Around.{CallBegins}
use Rattle.back_relation.specs.Activation.{FormScope}
use Rattle.back_relation.specs.Ends.{WorldKept, Around, done, left_by, full_there, stopped, few_turns, CallEnds}
use Rattle.back_relation.specs.Forms.{FormEnds}
use Rattle.back_relation.proofs.Growth.{both_prefix}
use Rattle.back_relation.proofs.Parts.{go_on_falls, go_on_last}
use Rattle.back_relation.proofs.Straight.{world_cost, around_cost}
use Rattle.back_relation.proofs.Then.{world_then, back_then, stopped_last}

abbrev pub framed : List FrameSlot → FlatState → FlatState
framed fs z = record z { frame = fs }

module _ (setting : Setting) where
  pub things_framed : {w : World} {z : FlatState} {y : MidState} (fs : List FrameSlot) → Things setting w z y → Things setting w (framed fs z) y
  things_framed {w} {z} {y} fs t = record {
    represents = t.represents;
    within_limit = t.within_limit;
    control = t.control;
    further = t.further;
    serials = t.serials;
    globals = t.globals;
    dynamics = t.dynamics;
    literals = t.literals;
    symbols = t.symbols;
    laid_symbols = t.laid_symbols;
    fresh_symbols = t.fresh_symbols;
    box_count = t.box_count;
    boxes_apart = t.boxes_apart;
    boxes = t.boxes;
    methods = t.methods;
    exit_forms = t.exit_forms;
    functions = t.functions;
    captured = t.captured;
    generics = t.generics;
  }

  pub world_framed :
      {w w' : World} {z z' : FlatState} {y y' : MidState} (fs gs : List FrameSlot) → WorldKept setting w w' z z' y y' → WorldKept setting w w' (framed fs z) (framed gs z') y y'
  world_framed fs gs k = record {
    later = k.later;
    things = things_framed gs k.things;
    stack = k.stack;
    end = k.end;
    more_exits = k.more_exits;
    same_size = k.same_size;
  }

  pub around_framed :
      {credit : ℕ} {z z' : FlatState} {y y' : MidState} (fs gs : List FrameSlot) → Around setting credit z z' y y' → Around setting credit (framed fs z) (framed gs z') y y'
  around_framed fs gs a = record { control = a.control; blocks = a.blocks; charged = a.charged; paid = a.paid }

  -- **the word of a form in a frame of its own is returned**
  pub form_returned :
      {credit m : ℕ} {rs valid : List Standing} {s : FormScope} {d : ℕ} {w : World} {env : FlatEnvironment} {around : DynamicContext} {z : FlatState} {regs : Registers} {y : MidState}
      {r : FlatEvaluated} {q : MidOutcome} (c : Context) (fs : List FrameSlot) → ((g : Registers) (x : MidState) → Grown x (exec c (code_of (return_word d ∷ [])) g x).state)
      → FormEnds setting credit m rs valid s d w env around (framed fs z) regs y r q
      → CallEnds setting (credit + return_cost) m rs valid w around z y (with_frame z.frame r) (mid_go_on q (λ g x. exec c (code_of (return_word d ∷ [])) g x))
  form_returned {credit} {m} {rs} {valid} {s} {d} {w} {env} {around} {z} {regs} {y} {r} {q} c fs grown e = by e
    where
      next : Next
      next g x = exec c (code_of (return_word d ∷ [])) g x

      later : Grown q.state (mid_go_on q next).state
      later = go_on_grown q next q.state (same_grown q.state) grown

      by : FormEnds setting credit m rs valid s d w env around (framed fs z) regs y r q
          → CallEnds setting (credit + return_cost) m rs valid w around z y (with_frame z.frame r) (mid_go_on q next)
      by (done x) =
          let run : RunsTo c (code_of (return_word d ∷ [])) q.registers q.state (ends (returns x.word) q.registers (mid_charged return_cost q.state)) =
          and_ends tt (return_ends x.in_register) in
          let k = x.reached.kept.world in
          let a = x.reached.back in
          subst (λ p. CallEnds setting (credit + return_cost) m rs valid w around z y (with_frame z.frame r) p) (sym (go_on_falls q next x.end ∙ run.same))
          (done (record {
            result = x.result;
            outcome = x.outcome;
            word = x.word;
            end = refl;
            w' = x.w';
            world = world_framed z.frame z.frame (world_then setting k a (world_cost setting return_cost k.things));
            back = around_framed z.frame z.frame (back_then setting k a (omega arith) (around_cost setting {credit = return_cost} r.state q.state return_cost (omega arith)));
            of_value = x.of_value;
            frame = refl;
          }))
      by (left_by x) =
          let t = x.transfer in
          subst (λ p. CallEnds setting (credit + return_cost) m rs valid w around z y (with_frame z.frame r) p)
          (sym (go_on_last (cuts t.to.outside t.word) q next t.end tt))
          (left_by (record {
            transfer = record {
              exit_number = t.exit_number;
              result = t.result;
              landing = t.landing;
              outcome = t.outcome;
              target = t.target;
              valid_target = t.valid_target;
              to = t.to;
              outer = t.outer;
              stop = t.stop;
              word = t.word;
              end = t.end;
              blocks = t.blocks;
              w' = t.w';
              of_value = t.of_value;
              world = world_framed z.frame z.frame t.world;
              charged = t.charged;
              paid = omega (arith, t.paid);
              pending = t.pending;
              landing_word = t.landing_word;
              landing_stands = t.landing_stands;
              landing_is = t.landing_is;
              lands = t.lands;
            };
            frame = refl;
          }))
      by (full_there x) =
          full_there (record {
            asked = x.asked;
            left_then = x.left_then;
            outcome = x.outcome;
            printed = both_prefix x.printed (record { rest = later.printed.0; is = sym later.printed.1 });
          })
      by (stopped x) =
          subst (λ p. CallEnds setting (credit + return_cost) m rs valid w around z y (with_frame z.frame r) p)
          (sym (go_on_last q.end q next refl (stopped_last setting r q.end x.because)))
          (stopped (record { because = x.because; printed = x.printed; paid = λ ended. omega (arith, x.paid ended) }))
      by (few_turns x) = few_turns x

-- ---- another site

abbrev pub at_place : Place → DynamicContext → DynamicContext
at_place p around = record around { site = p }

module _ (setting : Setting) (p : Place) where
  -- what is around does not hang on the site
  pub call_at_place :
      {rs valid : List Standing} {n : ℕ} {w : World} {around : DynamicContext} {z : FlatState} {y : MidState} → CallBegins setting rs valid n w around z y
      → CallBegins setting rs valid n w (at_place p around) z y
  call_at_place b =
      let t = b.around_stands in
      record {
        things = b.things;
        around_stands = record {
          current = t.current;
          link = t.link;
          handlers_cell = t.handlers_cell;
          bindings_cell = t.bindings_cell;
          current_word = t.current_word;
          link_word = t.link_word;
          handlers_word = t.handlers_word;
          bindings_word = t.bindings_word;
          chain = t.chain;
          records = t.records;
          links = t.links;
          handlers = t.handlers;
          bindings = t.bindings;
          ends_at_end = t.ends_at_end;
          end_record = t.end_record;
          end_valid = t.end_valid;
          end_word = t.end_word;
          end_form = t.end_form;
          tags_land = t.tags_land;
        };
        room = b.room;
      }

  -- nor does what a call comes to
  pub ends_at_place :
      {credit m : ℕ} {rs valid : List Standing} {w : World} {around : DynamicContext} {z : FlatState} {y : MidState} {r : FlatEvaluated} {q : MidOutcome}
      → CallEnds setting credit m rs valid w (at_place p around) z y r q → CallEnds setting credit m rs valid w around z y r q
  ends_at_place (done x) = done x
  ends_at_place (left_by x) =
      let t = x.transfer in
      left_by (record {
        transfer = record {
          exit_number = t.exit_number;
          result = t.result;
          landing = t.landing;
          outcome = t.outcome;
          target = t.target;
          valid_target = t.valid_target;
          to = t.to;
          outer = t.outer;
          stop = t.stop;
          word = t.word;
          end = t.end;
          blocks = t.blocks;
          w' = t.w';
          of_value = t.of_value;
          world = t.world;
          charged = t.charged;
          paid = t.paid;
          pending = t.pending;
          landing_word = t.landing_word;
          landing_stands = t.landing_stands;
          landing_is = t.landing_is;
          lands = t.lands;
        };
        frame = x.frame;
      })
  ends_at_place (full_there x) = full_there x
  ends_at_place (stopped x) = stopped x
  ends_at_place (few_turns x) = few_turns x
