-- The words that code has for itself: they are not lent, and what callers wait with is there alone.
use Rattle.std.proofs.Common.{inl, inr, ◌≡◌, ℕ, ◌+◌, ◌-◌, ◌*◌, ◌%◌, ◌<◌, ◌≤◌, Bool, true, false, ◌&&◌, List, [], ◌∷◌, ◌++◌, length, refl, sym, ap, subst, ◌∙◌, arith, Some, None, append_assoc}
use Rattle.std.specs.Prelude.{◌⊎◌, Option, slice_index, slice_get, ◌==◌, ◌||◌, nat_lt, nat_le}
use Rattle.std.proofs.lemmas.Bool.Decides.{nat_tests}
use Rattle.mid_code.specs.Arena.{Arena, Block, BlockKind, activation_frame, open_record, closed_record, is_record, words_of, begin_of, lent_from, is_within, is_in_record, is_lent}
use Rattle.mid_code.specs.State.{Registers}
use Rattle.mid_lines.proofs.Conjunctions.{front_true, back_true}
use Rattle.mid_lines.specs.declared.line.LineProcedure.{LineProcedure}
use Rattle.mid_lines.specs.declared.line.LineProgram.{LineProgram}
use Rattle.mid_lines.specs.LineMeaning.{Standing, Activation, Caller}
use Rattle.mid_lines.specs.StackLaw.{record_kind, frame_in, frame_of, blocks_of, StandsOn, CallersStandOn}
use Rattle.rv_encode.specs.declared.instruction.Instr.{Instr}
use Rattle.back_places.specs.declared.place.Place.{Place}
use Rattle.back_places.specs.declared.place.Place.TheVariants.{InRegister, InSlot, AsConstant}
use Rattle.back_places.specs.Places.{Located}
use Rattle.back_places.specs.Relation.{HasCode, Stands, IsAt, base_of, own_words, IsPrivate, InForm, HasProgram, HeadHolds, HeadsHold, LandingHolds, LandingsHold, Waits, CallersWait}
use Rattle.back_places.specs.Facts.{IsPlace}
use Rattle.back_places.specs.Good.{IsGood}

either_true : (a b : Bool) → (a || b) ≡ true → (a ≡ true) ⊎ (b ≡ true)
either_true true b h = inl refl
either_true false b h = inr h

pub private_low : (size : ℕ) (bs : List Block) (i : ℕ) → IsPrivate size bs i → size - words_of bs ≤ i
private_low size [] i h = absurd h
private_low size (b ∷ bs) i h = elim h [
  | inl k ↦ k.0
  | inr k ↦ let low = private_low size bs i k in omega (arith, low)
]

within_bounds : (from to a : ℕ) → is_within from to a ≡ true → (from ≤ a) × (a < to)
within_bounds from to a h = (grind (arith, nat_tests, front_true (nat_le from a) (nat_lt a to) h), grind (arith, nat_tests, back_true (nat_le from a) (nat_lt a to) h))

own_few : (b : Block) (kind : BlockKind) → own_words b kind ≤ b.words
own_few b activation_frame = omega arith
own_few b open_record = omega arith
own_few b closed_record = omega arith

-- where an address of a record is: not in a word that is private
record_apart :
    (size : ℕ) (bs : List Block) (i : ℕ) → words_of bs ≤ size → is_in_record size bs (4 * i) ≡ true
    → (size - words_of bs ≤ i) × (IsPrivate size bs i → ⊥)
record_apart size [] i fits h = absurd (cc h)
record_apart size (b ∷ bs) i fits h = elim (either_true (is_record b.kind && is_within (lent_from size (b ∷ bs)) (begin_of size bs) (4 * i)) (is_in_record size bs (4 * i)) h) [
  | inl k ↦
      let w = within_bounds (lent_from size (b ∷ bs)) (begin_of size bs) (4 * i) (back_true (is_record b.kind) _ k) in (
        omega (arith, w, fits),
        λ p. elim p [
          | inl q ↦ own b.kind (front_true (is_record b.kind) _ k) w q
          | inr q ↦ let low = private_low size bs i q in omega (arith, low, w.1, fits)
        ],
      )
  | inr k ↦
      let deeper = record_apart size bs i (omega (arith, fits)) k in (
        omega (arith, deeper.0, fits),
        λ p. elim p [
          | inl q ↦ let few = own_few b b.kind in omega (arith, few, q.1, deeper.0, fits)
          | inr q ↦ deeper.1 q
        ],
      )
]
  where
    own :
        (kind : BlockKind) → is_record kind ≡ true → (lent_from size (b ∷ bs) ≤ 4 * i) × (4 * i < begin_of size bs)
        → (size - words_of (b ∷ bs) ≤ i) × (i < size - words_of (b ∷ bs) + own_words b kind) → ⊥
    own activation_frame r w q = cc r
    own open_record r w q = omega (arith, w.0, q.1)
    own closed_record r w q = omega (arith, w.0, q.1)

-- a word that is lent is not private
pub lent_apart : (a : Arena) (i : ℕ) → InForm a → is_lent a (4 * i) ≡ true → IsPrivate (length a.memory) a.blocks i → ⊥
lent_apart a i f h p =
    let low = private_low (length a.memory) a.blocks i p in
    elim (either_true (is_within a.laid_from a.laid_to (4 * i) || is_within a.heap_from a.heap_to (4 * i)) (is_in_record (length a.memory) a.blocks (4 * i)) (back_true (4 * i % 4 == 0) _ h)) [
      | inl k ↦ elim (either_true (is_within a.laid_from a.laid_to (4 * i)) (is_within a.heap_from a.heap_to (4 * i)) k) [
        | inl j ↦ let w = within_bounds a.laid_from a.laid_to (4 * i) j in omega (arith, w.1, f.laid, f.grown, f.below, low)
        | inr j ↦ let w = within_bounds a.heap_from a.heap_to (4 * i) j in omega (arith, w.1, f.below, low)
      ]
      | inr k ↦ (record_apart (length a.memory) a.blocks i f.fits k).1 p
    ]

-- where a word that is lent is: among the words laid, or not below the heap
pub lent_where : (a : Arena) (i : ℕ) → InForm a → is_lent a (4 * i) ≡ true → (4 * i < a.laid_to) ⊎ (a.heap_from ≤ 4 * i)
lent_where a i f h =
    elim (either_true (is_within a.laid_from a.laid_to (4 * i) || is_within a.heap_from a.heap_to (4 * i)) (is_in_record (length a.memory) a.blocks (4 * i)) (back_true (4 * i % 4 == 0) _ h)) [
      | inl k ↦ elim (either_true (is_within a.laid_from a.laid_to (4 * i)) (is_within a.heap_from a.heap_to (4 * i)) k) [
        | inl j ↦ let w = within_bounds a.laid_from a.laid_to (4 * i) j in inl w.1
        | inr j ↦ let w = within_bounds a.heap_from a.heap_to (4 * i) j in inr w.0
      ]
      | inr k ↦ let w = record_apart (length a.memory) a.blocks i f.fits k in inr (omega (arith, w.0, f.grown, f.below))
    ]

-- a word of the frame of an activation that stands on blocks is private there
own_of_frame : (o : Option LineProcedure) → own_words (frame_in o) (frame_in o).kind ≡ (frame_in o).words
own_of_frame None = refl
own_of_frame (Some p) = refl

pub own_private :
    (program : LineProgram) (size : ℕ) (a : Activation) (records : List Standing) (k : ℕ) → k < (frame_of program a.procedure).words
    → IsPrivate size (blocks_of program a records) (base_of program size a + k)
own_private program size a [] k h =
    let own = own_of_frame (slice_get program.procedures a.procedure) in
    inl (omega arith, omega (arith, h, own))
own_private program size a (s ∷ records) k h = inr (own_private program size a records k h)

pub on_blocks :
    (program : LineProgram) (size : ℕ) (a : Activation) (bs : List Block) (k : ℕ) → StandsOn program a bs → k < (frame_of program a.procedure).words
    → IsPrivate size bs (base_of program size a + k)
on_blocks program size a bs k st h = subst (λ l. IsPrivate size l (base_of program size a + k)) (sym st.all) (own_private program size a a.standing k h)

-- what outer blocks have for themselves, inner ones have too
pub outer_private :
    (program : LineProgram) (size : ℕ) (a : Activation) (records : List Standing) (i : ℕ) → IsPrivate size a.outer i → IsPrivate size (blocks_of program a records) i
outer_private program size a [] i h = inr h
outer_private program size a (s ∷ records) i h = inr (outer_private program size a records i h)

-- how many words the blocks of an activation have
pub outer_words : (program : LineProgram) (a : Activation) (records : List Standing) → words_of (frame_of program a.procedure ∷ a.outer) ≤ words_of (blocks_of program a records)
outer_words program a [] = omega arith
outer_words program a (s ∷ records) = let h = outer_words program a records in omega (arith, h)

-- words that are the same where they are private
abbrev pub SamePrivate : (size : ℕ) (bs : List Block) (words words' : List ℕ) → Type 0
SamePrivate size bs words words' = (i : ℕ) → IsPrivate size bs i → slice_index words' i ≡ slice_index words i

own_of_record : (t : Bool) (w : ℕ) → 1 < own_words (record { words = w + 2; kind = record_kind t }) (record_kind t)
own_of_record true w = omega arith
own_of_record false w = omega arith

-- the first words of a record that stands are private
head_private :
    (program : LineProgram) (size : ℕ) (a : Activation) (s : Standing) (records : List Standing)
    → IsPrivate size (blocks_of program a (s ∷ records)) (size - words_of (blocks_of program a (s ∷ records)))
head_private program size a s records = let some = own_of_record s.is_open s.words in inl (omega arith, omega (arith, some))

second_private :
    (program : LineProgram) (size : ℕ) (a : Activation) (s : Standing) (records : List Standing)
    → IsPrivate size (blocks_of program a (s ∷ records)) (size - words_of (blocks_of program a (s ∷ records)) + 1)
second_private program size a s records = let some = own_of_record s.is_open s.words in inl (omega arith, omega (arith, some))

inner_private :
    (program : LineProgram) (size : ℕ) (a : Activation) (records more : List Standing) (i : ℕ) → IsPrivate size (blocks_of program a more) i
    → (before : List Standing) → records ≡ before ++ more → IsPrivate size (blocks_of program a records) i
inner_private program size a records more i h [] e = subst (λ r. IsPrivate size (blocks_of program a r) i) (sym e) h
inner_private program size a records more i h (s ∷ before) e =
    subst (λ r. IsPrivate size (blocks_of program a r) i) (sym e) (inr (inner_private program size a (before ++ more) more i h before refl))

module _ (program : LineProgram) (l : Located) (Fact : (number line register : ℕ) → Place → Type 0) (first : List Block) (size : ℕ) (words words' : List ℕ) (good : IsGood program l Fact) where
  place_kept :
      (a : Activation) (bs : List Block) (p : Place) (w : ℕ) → StandsOn program a bs → SamePrivate size bs words words'
      → IsPlace (frame_of program a.procedure).words p → IsAt [] words (base_of program size a) p w → IsAt [] words' (base_of program size a) p w
  place_kept a bs (InRegister r) w st same ok h = h
  place_kept a bs (InSlot k) w st same ok h = same (base_of program size a + k) (on_blocks program size a bs k st ok.1) ∙ h
  place_kept a bs (AsConstant c) w st same ok h = h

  landing_kept :
      (a : Activation) (bs : List Block) (rs : Registers) (landing : Option ℕ) → StandsOn program a bs → SamePrivate size bs words words'
      → LandingHolds program l Fact first words (base_of program size a) a.procedure rs landing → LandingHolds program l Fact first words' (base_of program size a) a.procedure rs landing
  landing_kept a bs rs None st same h = tt
  landing_kept a bs rs (Some landing) st same h = λ v p w f e. place_kept a bs p w st same (good.placed a.procedure landing v p f) (h v p w f e)

  landings_kept :
      (a : Activation) (bs : List Block) (rs : Registers) (records : List Standing) → StandsOn program a bs → SamePrivate size bs words words'
      → LandingsHold program l Fact first words (base_of program size a) a.procedure rs records → LandingsHold program l Fact first words' (base_of program size a) a.procedure rs records
  landings_kept a bs rs [] st same h = tt
  landings_kept a bs rs (s ∷ records) st same h = (landing_kept a bs rs s.landing st same h.0, landings_kept a bs rs records st same h.1)

  -- the first two words of a record
  head_kept :
      (at outside number : ℕ) (landing : Option ℕ) → slice_index words' at ≡ slice_index words at → slice_index words' (at + 1) ≡ slice_index words (at + 1)
      → HeadHolds program l Fact first words at outside number landing → HeadHolds program l Fact first words' at outside number landing
  head_kept at outside number None e e' h = e' ∙ h
  head_kept at outside number (Some landing) e e' h = e ∙ h

  heads_kept :
      (a : Activation) (all : List Standing) (before records : List Standing) → all ≡ before ++ records → words_of (blocks_of program a all) ≤ size
      → ((i : ℕ) → IsPrivate size (blocks_of program a all) i → i < base_of program size a → slice_index words' i ≡ slice_index words i)
      → HeadsHold program l Fact first words size a records → HeadsHold program l Fact first words' size a records
  heads_kept a all before [] e fits same h = tt
  heads_kept a all before (s ∷ records) e fits same h =
      let outer = outer_words program a records in
      let part = part_words a before (s ∷ records) in
      let whole : words_of (blocks_of program a (before ++ s ∷ records)) ≤ size = subst (λ r. words_of (blocks_of program a r) ≤ size) e fits in
      let at = size - words_of (blocks_of program a (s ∷ records)) in (
        head_kept at (size - words_of (blocks_of program a records)) a.procedure s.landing
            (same at (inner_private program size a all (s ∷ records) at (head_private program size a s records) before e) (omega (arith, outer, part, whole)))
            (same (at + 1) (inner_private program size a all (s ∷ records) (at + 1) (second_private program size a s records) before e) (omega (arith, outer, part, whole)))
            h.0,
        heads_kept a all (before ++ s ∷ []) records (e ∙ sym (append_assoc before (s ∷ []) records)) fits same h.1,
      )
    where
      part_words : (a : Activation) (before records : List Standing) → words_of (blocks_of program a records) ≤ words_of (blocks_of program a (before ++ records))
      part_words a [] records = omega arith
      part_words a (s ∷ before) records = let h = part_words a before records in omega (arith, h)

  pub heads_stay :
      (a : Activation) (bs : List Block) → StandsOn program a bs → words_of bs ≤ size
      → ((i : ℕ) → IsPrivate size bs i → i < base_of program size a → slice_index words' i ≡ slice_index words i)
      → HeadsHold program l Fact first words size a a.standing → HeadsHold program l Fact first words' size a a.standing
  heads_stay a bs st fits same h =
      heads_kept a a.standing [] a.standing refl (subst (λ b. words_of b ≤ size) st.all fits)
      (λ i p. same i (subst (λ b. IsPrivate size b i) (sym st.all) p)) h

  waits_kept :
      (c : Caller) (bs : List Block) (link : ℕ) → words_of bs ≤ size → StandsOn program c.activation bs → SamePrivate size bs words words'
      → Waits program l Fact first words size c link → Waits program l Fact first words' size c link
  waits_kept c bs link fits st same w = record {
    at = w.at;
    callee = w.callee;
    arguments = w.arguments;
    behind = w.behind;
    is_call = w.is_call;
    link_is = w.link_is;
    there = λ v p x f ne e. place_kept c.activation bs p x st same (good.placed c.activation.procedure c.line v p f) (w.there v p x f ne e);
    landings = landings_kept c.activation bs c.registers c.activation.standing st same w.landings;
    records_are = w.records_are;
    heads = heads_stay c.activation bs st fits (λ i p low. same i p) w.heads;
    saves = w.saves;
  }

  pub callers_stay :
      (callers : List Caller) (bs : List Block) (link : ℕ) → words_of bs ≤ size → CallersStandOn program first callers bs → SamePrivate size bs words words'
      → CallersWait program l Fact first words size callers link → CallersWait program l Fact first words' size callers link
  callers_stay [] bs link fits st same w = w
  callers_stay (c ∷ callers) bs link fits st same w =
      let deeper : SamePrivate size c.activation.outer words words' =
      λ i h. same i (subst (λ b. IsPrivate size b i) (sym st.0.all) (outer_private program size c.activation c.activation.standing i h)) in
      let zero_is : base_of program size c.activation + 0 ≡ base_of program size c.activation = omega arith in
      let own = on_blocks program size c.activation bs 0 st.0 (good.frames c.activation.procedure w.0.saves) in
      let there : slice_index words' (base_of program size c.activation) ≡ slice_index words (base_of program size c.activation) =
      same (base_of program size c.activation) (subst (λ i. IsPrivate size bs i) zero_is own) in
      let all_words = outer_words program c.activation c.activation.standing in
      let same_blocks : words_of bs ≡ words_of (blocks_of program c.activation c.activation.standing) = ap words_of st.0.all in (
        waits_kept c bs link fits st.0 same w.0,
        subst (λ k. CallersWait program l Fact first words' size callers k) (sym there) (callers_stay callers c.activation.outer _ (omega (arith, all_words, same_blocks, fits)) st.1 deeper w.1),
      )

-- code that stands in words stands in others that are the same there
pub has_code_kept :
    (words words' : List ℕ) (code : List Instr) (at : ℕ) → length words' ≡ length words
    → ((i : ℕ) → at ≤ i → i < at + length code → slice_index words' i ≡ slice_index words i) → HasCode words at code → HasCode words' at code
has_code_kept words words' [] at len same h = tt
has_code_kept words words' (i ∷ more) at len same h = (
  omega (arith, len, h.0),
  same at (omega arith) (omega arith) ∙ h.1,
  h.2,
  has_code_kept words words' more (at + 1) len (λ j low high. same j (omega (arith, low)) (omega (arith, high))) h.3,
)

pub program_kept :
    (program : LineProgram) (l : Located) (words words' : List ℕ) → length words' ≡ length words
    → ((i : ℕ) → l.code_from ≤ i → i < l.code_to → slice_index words' i ≡ slice_index words i) → HasProgram program l words → HasProgram program l words'
program_kept program l words words' len same h = record {
  lines = λ number line x e. kept _ _ (h.lines number line x e);
  backs = λ number line x e. kept _ _ (h.backs number line x e);
  entries = λ number p e. kept _ _ (h.entries number p e);
  switches = λ number line r targets i to e k.
      let n = h.switches number line r targets i to e k in
      record { from = n.from; to = n.to; within = omega (arith, n.within, len); names = same _ n.from n.to ∙ n.names };
  table = λ number p e.
      let n = h.table number p e in
      record { from = n.from; to = n.to; within = omega (arith, n.within, len); names = same _ n.from n.to ∙ n.names };
  full = kept _ _ h.full;
  end = kept _ _ h.end;
}
  where
    kept : (at : ℕ) (code : List Instr) → Stands l words at code → Stands l words' at code
    kept at code s = record {
      from = s.from;
      to = s.to;
      has = has_code_kept words words' code at len (λ i low high. same i (omega (arith, low, s.from)) (omega (arith, high, s.to))) s.has;
    }
