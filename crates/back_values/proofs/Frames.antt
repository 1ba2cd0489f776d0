-- Of the frame no words speak but those in registers: what words say goes on being said of a state with another frame.
use Rattle.std.proofs.Common.{ℕ, List}
use Rattle.lang_meaning.specs.State.{DynamicContext}
use Rattle.flat_language.specs.FlatState.{FrameSlot, FlatState, FlatEvaluated}
use Rattle.mid_code.specs.State.{MidState, MidOutcome}
use Rattle.back_relation.specs.Setting.{Setting}
use Rattle.back_relation.specs.Worlds.{World, Standing}
use Rattle.back_relation.specs.Things.{Things}
use Rattle.back_relation.specs.Around.{CallBegins}
use Rattle.back_relation.specs.Ends.{WorldKept, Around, Transfers}

abbrev pub framed : List FrameSlot → FlatState → FlatState
framed fs z = record z { frame = fs }

-- the outcome with another frame
abbrev pub ended_framed : List FrameSlot → FlatEvaluated → FlatEvaluated
ended_framed fs r = record { outcome = r.outcome; state = framed fs r.state }

module _ (setting : Setting) where
  pub things_framed : {w : World} {z : FlatState} {y : MidState} (fs : List FrameSlot) → Things setting w z y → Things setting w (framed fs z) y
  things_framed fs t = record {
    represents = t.represents;
    within_limit = t.within_limit;
    control = t.control;
    further = t.further;
    serials = t.serials;
    globals = t.globals;
    dynamics = t.dynamics;
    literals = t.literals;
    symbols = t.symbols;
    laid_symbols = t.laid_symbols;
    fresh_symbols = t.fresh_symbols;
    box_count = t.box_count;
    boxes_apart = t.boxes_apart;
    boxes = t.boxes;
    methods = t.methods;
    exit_forms = t.exit_forms;
    functions = t.functions;
    captured = t.captured;
    generics = t.generics;
  }

  pub call_framed :
      {rs valid : List Standing} {n : ℕ} {w : World} {around : DynamicContext} {z : FlatState} {y : MidState} (fs : List FrameSlot)
      → CallBegins setting rs valid n w around z y → CallBegins setting rs valid n w around (framed fs z) y
  call_framed fs b = record {
    things = things_framed fs b.things;
    around_stands = record {
      current = b.around_stands.current;
      link = b.around_stands.link;
      handlers_cell = b.around_stands.handlers_cell;
      bindings_cell = b.around_stands.bindings_cell;
      current_word = b.around_stands.current_word;
      link_word = b.around_stands.link_word;
      handlers_word = b.around_stands.handlers_word;
      bindings_word = b.around_stands.bindings_word;
      chain = b.around_stands.chain;
      records = b.around_stands.records;
      links = b.around_stands.links;
      handlers = b.around_stands.handlers;
      bindings = b.around_stands.bindings;
      ends_at_end = b.around_stands.ends_at_end;
      end_record = b.around_stands.end_record;
      end_valid = b.around_stands.end_valid;
      end_word = b.around_stands.end_word;
      end_form = b.around_stands.end_form;
      tags_land = b.around_stands.tags_land;
    };
    room = b.room;
  }

  -- both frames may be others
  pub world_framed :
      {w w' : World} {z z' : FlatState} {y y' : MidState} (fs gs : List FrameSlot) → WorldKept setting w w' z z' y y'
      → WorldKept setting w w' (framed fs z) (framed gs z') y y'
  world_framed fs gs k = record {
    later = k.later;
    things = things_framed gs k.things;
    stack = k.stack;
    end = k.end;
    more_exits = k.more_exits;
    same_size = k.same_size;
  }

  pub around_framed :
      {credit : ℕ} {z z' : FlatState} {y y' : MidState} (fs gs : List FrameSlot) → Around setting credit z z' y y'
      → Around setting credit (framed fs z) (framed gs z') y y'
  around_framed fs gs a = record { control = a.control; blocks = a.blocks; charged = a.charged; paid = a.paid }

  unfoldable pub transfers_framed :
      {credit : ℕ} {rs valid : List Standing} {w : World} {around : DynamicContext} {z : FlatState} {y : MidState} {r : FlatEvaluated} {q : MidOutcome} (fs gs : List FrameSlot)
      → Transfers setting credit rs valid w around z y r q → Transfers setting credit rs valid w around (framed fs z) y (ended_framed gs r) q
  transfers_framed fs gs t = record {
    exit_number = t.exit_number;
    result = t.result;
    landing = t.landing;
    outcome = t.outcome;
    target = t.target;
    valid_target = t.valid_target;
    to = t.to;
    outer = t.outer;
    stop = t.stop;
    word = t.word;
    end = t.end;
    blocks = t.blocks;
    w' = t.w';
    of_value = t.of_value;
    world = world_framed fs gs t.world;
    charged = t.charged;
    paid = t.paid;
    pending = t.pending;
    landing_word = t.landing_word;
    landing_stands = t.landing_stands;
    landing_is = t.landing_is;
    lands = t.lands;
  }
