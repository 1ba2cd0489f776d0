-- Later worlds, and what stands on the stack: it goes on standing where code fell out, and where more was laid inside.
use Rattle.std.proofs.Common.{◌≡◌, ℕ, ◌+◌, ◌*◌, ◌<◌, ◌≤◌, List, [], ◌∷◌, length, Some, None, sym, ap, ◌∙◌, subst, arith}
use Rattle.lang_meaning.specs.Values.{Value, integer, character, symbol, nil, object}
use Rattle.lang_meaning.specs.State.{Exit, ExitKind, block_exit, tagbody_exit, catch_exit, signal_exit, end_exit, DynamicContext}
use Rattle.flat_language.specs.FlatState.{FlatState}
use Rattle.mid_code.specs.Arena.{Block, begin_of, stack_from, blocks_from}
use Rattle.mid_code.specs.State.{MidState}
use Rattle.mid_arena.specs.Places.{of_object, of_symbol, spot_of, pointer_in, word_of}
use Rattle.mid_arena.specs.Standing.{ValueAt}
use Rattle.mid_arena.proofs.Keeping.{pointer_tells}
use Rattle.back_lowering.specs.ControlWords.{record_serial, record_kind, record_outer, record_link, record_tag, record_mark, end_address, handler_function, handler_outer, binding_variable, binding_value, binding_outer}
use Rattle.back_relation.specs.Setting.{Setting}
use Rattle.back_relation.specs.Worlds.{World, Later, Standing, RecordRole, for_cleanup, for_exit, Chain, Links, Plain, record_bytes}
use Rattle.back_relation.specs.StackWords.{StackKept, HasWordAt, TagsAt, UseAt, RecordAt, HandlersAt, BindingsAt}
use Rattle.back_relation.specs.Around.{AroundStands}
use Rattle.back_relation.specs.Ends.{ControlBack}

-- ---- worlds

pub later_same : (w : World) → Later w w
later_same w = record { spots = λ p s e. e; boxes = λ i a e. e; methods = λ i m e. e; exit_forms = λ x o e. e; none_new = λ i a e. e }

pub later_then : {u v w : World} → Later u v → Later v w → Later u w
later_then {u} {v} {w} g h = record {
  spots = λ p s e. h.spots p s (g.spots p s e);
  boxes = λ i a e. h.boxes i a (g.boxes i a e);
  methods = λ i m e. h.methods i m (g.methods i m e);
  exit_forms = λ x o e. h.exit_forms x o (g.exit_forms x o e);
  none_new = λ i a e. g.none_new i a (h.none_new i a e);
}

pub word_later : {w w' : World} → Later w w' → (v : Value) (x : ℕ) → word_of w.places v ≡ Some x → word_of w'.places v ≡ Some x
word_later {w} {w'} l (integer n) x e = e
word_later {w} {w'} l (character c) x e = e
word_later {w} {w'} l nil x e = e
word_later {w} {w'} l (symbol s) x e =
    let p = pointer_tells (spot_of w.places (of_symbol s)) x e in
    ap pointer_in (l.spots (of_symbol s) p.spot p.found) ∙ cc p.word
word_later {w} {w'} l (object i) x e =
    let p = pointer_tells (spot_of w.places (of_object i)) x e in
    ap pointer_in (l.spots (of_object i) p.spot p.found) ∙ cc p.word

pub plain_later : {w w' : World} (x : ℕ) → Later w w' → Plain w x → Plain w' x
plain_later {w} {w'} x l p i e = p i (l.none_new i x e)

-- ---- states with at least the same blocks

-- the blocks that stood stand, and plain words of the stack are as they were
pub record Deeper (w w' : World) (y y' : MidState) : Type 0 where
  pub from : stack_from y'.arena ≤ stack_from y.arena
  pub size : length y'.arena.memory ≡ length y.arena.memory
  pub blocks :
      (a : ℕ) (bs : List Block) → stack_from y.arena ≤ a → blocks_from (length y.arena.memory) y.arena.blocks a ≡ Some bs
      → blocks_from (length y'.arena.memory) y'.arena.blocks a ≡ Some bs
  pub stack : StackKept w w' y y'

-- the blocks are the same, as where code fell out
pub record Same (w w' : World) (y y' : MidState) : Type 0 where
  pub blocks : y'.arena.blocks ≡ y.arena.blocks
  pub size : length y'.arena.memory ≡ length y.arena.memory
  pub stack : StackKept w w' y y'

pub stack_same : {w w' : World} {y y' : MidState} → Same w w' y y' → stack_from y'.arena ≡ stack_from y.arena
stack_same {w} {w'} {y} {y'} h = ap (λ n. begin_of n y'.arena.blocks) h.size ∙ ap (begin_of (length y.arena.memory)) h.blocks

pub deeper_same : {w w' : World} {y y' : MidState} → Same w w' y y' → Deeper w w' y y'
deeper_same {w} {w'} {y} {y'} h = record {
  from = omega (arith, stack_same h);
  size = h.size;
  blocks = λ a bs low found. ap (λ n. blocks_from n y'.arena.blocks a) h.size ∙ ap (λ cs. blocks_from (length y.arena.memory) cs a) h.blocks ∙ found;
  stack = h.stack;
}

module _ {w w' : World} {y y' : MidState} (l : Later w w') (h : Deeper w w' y y') where
  pub word_stays : (x n : ℕ) → stack_from y.arena ≤ x → Plain w x → HasWordAt y x n → HasWordAt y' x n
  word_stays x n low plain e = h.stack.words x low (omega (arith, low, h.from)) plain ∙ e

  pub value_stays : (x : ℕ) (v : Value) → stack_from y.arena ≤ x → Plain w x → ValueAt w.places y.arena x v → ValueAt w'.places y'.arena x v
  value_stays x v low plain at = record { word = at.word; of_value = word_later l v at.word at.of_value; stands = word_stays x at.word low plain at.stands }

  low_stays : (a : ℕ) → stack_from y.arena ≤ a → stack_from y'.arena ≤ a
  low_stays a low = omega (arith, h.from)

  tags_stay :
      (a : ℕ) (k : ExitKind) → stack_from y.arena ≤ a → ((i : ℕ) → i < record_bytes → Plain w (a + i)) → TagsAt w y a k → TagsAt w' y' a k
  tags_stay a block_exit low plain t = tt
  tags_stay a tagbody_exit low plain t = tt
  tags_stay a (catch_exit tag) low plain t = value_stays (a + record_tag) tag (omega arith) (plain record_tag (omega arith)) t
  tags_stay a (signal_exit c mark) low plain t = (
    value_stays (a + record_tag) c (omega arith) (plain record_tag (omega arith)) t.0,
    value_stays (a + record_mark) mark (omega arith) (plain record_mark (omega arith)) t.1,
  )
  tags_stay a end_exit low plain t = tt

  pub record_stays : (r : Standing) → RecordAt w y r → RecordAt w' y' r
  record_stays r at = record {
    block = record {
      blocks = at.block.blocks;
      found = h.blocks r.address at.block.blocks at.low at.block.found;
      count = at.block.count;
    };
    low = low_stays r.address at.low;
    high = subst (λ n. r.address + record_bytes ≤ 4 * n) (sym h.size) at.high;
    plain = λ k g. plain_later (r.address + k) l (at.plain k g);
    kind = here record_kind (omega arith) at.kind;
    outer = here record_outer (omega arith) at.outer;
    role = by r.role at.role;
  }
    where
      here : (k : ℕ) {n : ℕ} → k < record_bytes → HasWordAt y (r.address + k) n → HasWordAt y' (r.address + k) n
      here k {n} g e = let low = at.low in word_stays (r.address + k) n (omega arith) (at.plain k g) e

      by : (u : RecordRole) → UseAt w y r u → UseAt w' y' r u
      by for_cleanup u = tt
      by (for_exit x) u =
          (here record_serial (omega arith) u.0, here record_link (omega arith) u.1, tags_stay r.address x.kind at.low at.plain u.2)

  pub handlers_stay : (hs : List Value) (a : ℕ) → HandlersAt w y a hs → HandlersAt w' y' a hs
  handlers_stay [] a t = t
  handlers_stay (v ∷ hs) a t =
      let low : stack_from y.arena ≤ a = t.1 in (
        value_stays (a + handler_function) v (omega arith) t.2 t.0,
        low_stays a t.1,
        plain_later (a + handler_function) l t.2,
        plain_later (a + handler_outer) l t.3,
        t.4,
        (t.5.0, word_stays (a + handler_outer) t.5.0 (omega arith) t.3 t.5.1, handlers_stay hs t.5.0 t.5.2),
      )

  pub bindings_stay : (setting : Setting) (bs : List (List ℕ × ℕ)) (a : ℕ) → BindingsAt setting w y a bs → BindingsAt setting w' y' a bs
  bindings_stay setting [] a t = t
  bindings_stay setting (b ∷ bs) a t =
      let low : stack_from y.arena ≤ a = t.2 in (
        (t.0.0, t.0.1, t.0.2, word_stays (a + binding_variable) _ (omega arith) t.3 t.0.3),
        h.stack.bindings b.1 (a + binding_value) t.1 (omega arith) (omega (arith, h.from)),
        low_stays a t.2,
        plain_later (a + binding_variable) l t.3,
        plain_later (a + binding_outer) l t.4,
        t.5,
        (t.6.0, word_stays (a + binding_outer) t.6.0 (omega arith) t.4 t.6.1, bindings_stay setting bs t.6.0 t.6.2),
      )

pub links_raise : (rs : List Standing) (a m n : ℕ) (xs : List Exit) (vs : List Standing) → m ≤ n → Links rs a m xs vs → Links rs a n xs vs
links_raise rs a m n [] [] h t = tt
links_raise rs a m n [] (v ∷ vs) h t = t
links_raise rs a m n (x ∷ xs) [] h t = t
links_raise rs a m n (x ∷ xs) (v ∷ vs) h t = let low : x.number < m = t.3 in (t.0, t.1, t.2, omega arith, t.4)

pub chain_lower : (m n a : ℕ) (rs : List Standing) → n ≤ m → Chain m a rs → Chain n a rs
chain_lower m n a [] h t = tt
chain_lower m n a (r ∷ rs) h t = let low : m ≤ r.address = t.1 in (t.0, omega arith, t.2)

-- what is around stands again
pub around_again :
    (setting : Setting) {w w' : World} {rs valid : List Standing} {around : DynamicContext} {z z' : FlatState} {y y' : MidState}
    → Later w w' → Same w w' y y' → ControlBack y y' → ((n : ℕ) → HasWordAt y end_address n → HasWordAt y' end_address n)
    → z.state.exits ≤ z'.state.exits → AroundStands setting w rs valid around z y → AroundStands setting w' rs valid around z' y'
around_again setting {w} {w'} {rs} {valid} {around} {z} {z'} {y} {y'} l h back end more t = record {
  current = t.current;
  link = t.link;
  handlers_cell = t.handlers_cell;
  bindings_cell = t.bindings_cell;
  current_word = back.current t.current t.current_word;
  link_word = back.link t.link t.link_word;
  handlers_word = back.handlers t.handlers_cell t.handlers_word;
  bindings_word = back.bindings t.bindings_cell t.bindings_word;
  chain = chain_lower (stack_from y.arena) (stack_from y'.arena) t.current rs (omega (arith, stack_same h)) t.chain;
  records = λ r i. record_stays l (deeper_same h) r (t.records r i);
  links = links_raise rs t.link z.state.exits z'.state.exits around.exits valid more t.links;
  handlers = handlers_stay l (deeper_same h) around.handlers t.handlers_cell t.handlers;
  bindings = bindings_stay l (deeper_same h) setting around.bindings t.bindings_cell t.bindings;
  ends_at_end = t.ends_at_end;
  end_record = t.end_record;
  end_valid = t.end_valid;
  end_word = end t.end_record.address t.end_word;
  end_form = l.exit_forms 0 None t.end_form;
  tags_land = λ x v i role tagged. l.exit_forms x.number None (t.tags_land x v i role tagged);
}
