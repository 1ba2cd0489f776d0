-- What the end of the run of an expander says of the call.
use Rattle.std.proofs.Common.{◌≡◌, ◌⊎◌, true, false, inl, inr, ◌≤◌, ◌<◌, ℕ, ◌+◌, ◌-◌, List, [], length, refl, sym, ap, subst, ◌∙◌, arith}
use Rattle.std.proofs.lemmas.Bool.{cases_lt}
use Rattle.base.specs.declared.reason.Reason.{Reason}
use Rattle.base.specs.declared.reason.Reason.TheVariants.{ExpanderUnhandled, ExpanderPrinted, ExpanderArena, ExpanderBudget}
use Rattle.base.specs.declared.reason.Refusal.{Refusal}
use Rattle.base.specs.declared.reason.Stop.{Stop}
use Rattle.base.specs.declared.place.Place.{Place}
use Rattle.base.specs.declared.reason.Stop.TheVariants.{Refused, NoMemory}
use Rattle.base.specs.Data.{Item, place_of}
use Rattle.base.specs.Names.{Extends-same}
use Rattle.lang_meaning.specs.declared.program.ProgramRows.{ProgramRows}
use Rattle.lang_alike.specs.Laws.{LawOfAlikeData}
use Rattle.lang_taken.specs.Taken.{greatest_size, greatest_depth}
use Rattle.front_profile.specs.Expanders.{program_of}
use Rattle.lang_meaning.specs.Meaning.{End, ended_value, ended_unhandled, ended_full, ended_more}
use Rattle.front_profile.specs.Expansions.{IsHalt, HasExpander, ExpansionStops, expander_words, expander_instructions, is_unhandled, has_printed, is_no_datum, too_many_nodes, large_image, full, long, endless}
use Rattle.front_programs.specs.declared.expanding.MacroCall.{MacroCall}
use Rattle.front_programs.specs.Calls.{CallExpands, CallStops, ProgramStops}
use Rattle.mid_arena.specs.Layouts.{AreBytes}
use Rattle.mid_start.specs.declared.symbol_words.SymbolWord.{SymbolWord}
use Rattle.mid_taken.specs.TakenFrom.{IsTaken, IsRefused}
use Rattle.mid_taken.specs.Taking.{StopsBy}
use Rattle.rv_machine.specs.declared.ending.TrapKind.{TrapKind}
use Rattle.rv_machine.specs.declared.ending.Ending.{Ending}
use Rattle.rv_machine.specs.declared.ending.Ending.TheVariants.{Halt, Unhandled, Full, Budget, Trap, ReadFault, WriteFault}
use Rattle.rv_machine.specs.Run.{Ended}
use Rattle.rv_machine.specs.State as machine
use Rattle.back_claims.specs.Program.{start_words}
use Rattle.back_meant.specs.Laws.{IsOwnEnd}
use Rattle.back_build.specs.Means.{Holds, HaltsWith, EndsUnhandled, EndsFull, ImageMeans}
use Rattle.back_build.specs.Values.{LawOfValuesLeft}
use Rattle.back_build.specs.WordsLeft.{AreWordsOf}
use Rattle.back_build.specs.declared.building.Built.{Built}
use Rattle.top_expansion.specs.declared.expander_run.ExpanderRun.{ExpanderRun}
use Rattle.top_expansion.specs.Calls.{IsCompiledCall, ShowsValue, call_means}
use Rattle.top_expansion.specs.Runs.{HasRun, expander_run}

no_bytes : AreBytes []
no_bytes i low = absurd (omega (arith, low))

-- the ends that no run comes to
abbrev pub IsOther : Ending → Type 0
IsOther (Halt word) = ⊥
IsOther (Unhandled class) = ⊥
IsOther (Full asked left) = ⊥
IsOther Budget = ⊥
IsOther (Trap kind address) = Unit {0}
IsOther ReadFault = Unit {0}
IsOther WriteFault = Unit {0}

pub other_of :
    (e : Ending) → ((kind : TrapKind) × (address : ℕ) × (e ≡ Trap kind address)) ⊎ ((e ≡ ReadFault) ⊎ (e ≡ WriteFault)) → IsOther e
other_of e (inl (kind, address, is)) = subst IsOther (sym is) tt
other_of e (inr (inl is)) = subst IsOther (sym is) tt
other_of e (inr (inr is)) = subst IsOther (sym is) tt

-- an end of the program's own
is_halt : (e : End) → IsOwnEnd e → IsHalt e
is_halt (ended_value v) own = tt
is_halt (ended_unhandled c place) own = tt
is_halt (ended_full asked left) own = absurd own
is_halt ended_more own = absurd own

-- there is no program of the call with so few nodes
pub of_program : (names : List (List ℕ)) (call : MacroCall) (stop : Stop) → ProgramStops call stop → CallStops names call stop
of_program names call (Refused r) h = (
  ap (λ (q : Refusal). q.place) h.0,
  subst (λ (q : Refusal). ExpansionStops names call.tables.now call.macro_number call.datum.now call.number q.reason) (sym h.0) (too_many_nodes h.1),
)
of_program names call NoMemory h = tt

-- a refusal at the call
pub stops_there : (names : List (List ℕ)) (call : MacroCall) (reason : Reason) (stop : Stop) → stop ≡ Refused (record { place = place_of call.datum.now; reason = reason })
    → ExpansionStops names call.tables.now call.macro_number call.datum.now call.number reason → CallStops names call stop
stops_there names call reason stop is h = subst (λ s. CallStops names call s) (sym is) (refl, h)

module _ (names : List (List ℕ)) (call : MacroCall) (built : Built) (c : IsCompiledCall names call built) where
  abbrev program : ProgramRows
  program = program_of call.tables.now call.macro_number call.datum.now

  -- its program is under the table that there is
  abbrev expander : HasExpander names call.tables.now call.macro_number call.datum.now
  expander = record { table = names; begins = Extends-same names; named = c.is_compiled.named; small = c.small }

  abbrev Stops : Reason → Type 0
  Stops reason = ExpansionStops names call.tables.now call.macro_number call.datum.now call.number reason

  -- an image that passes the arena with what the start of its run takes
  pub too_large : expander_words < length built.image.words + start_words → Stops ExpanderArena
  too_large more =
      let few = c.is_compiled.few in
      large_image expander few.left few.keeps (omega (arith, more, few.few))

  module _ (fits : length built.image.words ≤ expander_words) where
    abbrev x : Ended
    x = expander_run built.image

    means : ImageMeans names program built.symbols built.image.words built.image.entry expander_words []
    means = c.is_compiled.is_built expander_words [] fits (omega arith) no_bytes

    abbrev Ways : Type 0
    Ways = (x.ending ≡ Budget) ⊎ HaltsWith names program built.symbols (call_means names call) x ⊎ EndsUnhandled names program built.symbols (call_means names call) x ⊎ EndsFull names program built.symbols x

    ways : Ways
    ways = means.ends expander_instructions (omega arith)

    -- it halts as the program does
    halts : (word : ℕ) → x.ending ≡ Halt word → Ways → HaltsWith names program built.symbols (call_means names call) x
    halts word e (inl b) = let is : Halt word ≡ Budget = sym e ∙ b in absurd (cc)
    halts word e (inr (inl h)) = h
    halts word e (inr (inr (inl u))) = let is : Halt word ≡ Unhandled u.class = sym e ∙ u.ending in absurd (cc)
    halts word e (inr (inr (inr f))) = let is : Halt word ≡ Full f.asked f.left = sym e ∙ f.ending in absurd (cc)

    signals : (class : ℕ) → x.ending ≡ Unhandled class → Ways → EndsUnhandled names program built.symbols (call_means names call) x
    signals class e (inl b) = let is : Unhandled class ≡ Budget = sym e ∙ b in absurd (cc)
    signals class e (inr (inl h)) = let is : Unhandled class ≡ Halt h.word = sym e ∙ h.ending in absurd (cc)
    signals class e (inr (inr (inl u))) = u
    signals class e (inr (inr (inr f))) = let is : Unhandled class ≡ Full f.asked f.left = sym e ∙ f.ending in absurd (cc)

    -- with bytes printed, or none
    pub of_printed : (word : ℕ) → x.ending ≡ Halt word → (x.at.printed ≡ [] → ⊥) → Stops ExpanderPrinted
    of_printed word e heard =
        let h = halts word e ways in
        has_printed expander expander_instructions h.result h.end (λ silent. heard (h.printed ∙ silent))

    pub of_silent : LawOfValuesLeft → (word : ℕ) → x.ending ≡ Halt word → x.at.printed ≡ [] → ShowsValue names call built x.at.state word
    of_silent values word e silent =
        let h = halts word e ways in
        record {
          leaves = values names program built.symbols built.image c.is_compiled.is_built expander_words [] fits (omega arith) no_bytes expander_instructions (omega arith) word e;
          silent = sym h.printed ∙ silent;
        }

    pub of_unhandled : (class : ℕ) → x.ending ≡ Unhandled class → Stops ExpanderUnhandled
    of_unhandled class e =
        let u = signals class e ways in
        is_unhandled expander expander_instructions u.condition u.place u.end

    -- the words that are left beside the image and the start's own are too few
    without_room : (asked left : ℕ) → x.ending ≡ Full asked left → length built.image.words + start_words ≤ expander_words → Stops ExpanderArena
    without_room asked left e there =
        let room : ℕ = expander_words - (length built.image.words + start_words) in
        let few = c.is_compiled.few in
        let holds : Holds expander_words built.image.words room = omega (arith, there) in
        let f = means.full expander_instructions (omega arith) (record { asked = asked; left = left; ending = e }) room expander_instructions holds (omega arith) in
        full expander few.left room expander_instructions f.asked f.left few.keeps (omega (arith, there, few.few)) f.end

    by_room : (asked left : ℕ) → x.ending ≡ Full asked left
        → (expander_words < length built.image.words + start_words) ⊎ (length built.image.words + start_words ≤ expander_words) → Stops ExpanderArena
    by_room asked left e (inl more) = too_large more
    by_room asked left e (inr there) = without_room asked left e there

    pub of_full : (asked left : ℕ) → x.ending ≡ Full asked left → Stops ExpanderArena
    of_full asked left e = by_room asked left e (cases_lt expander_words (length built.image.words + start_words))

    pub of_budget : x.ending ≡ Budget → Stops ExpanderBudget
    of_budget e = elim (means.paid expander_instructions (omega arith) e) [
      | inl more ↦ endless expander more
      | inr (ended, dear) ↦ long expander expander_instructions (is_halt (call_means names call).end ended) dear
    ]

    -- there is no other end
    is_none : Ways → IsOther x.ending → ⊥
    is_none (inl b) other = subst IsOther b other
    is_none (inr (inl h)) other = subst IsOther h.ending other
    is_none (inr (inr (inl u))) other = subst IsOther u.ending other
    is_none (inr (inr (inr f))) other = subst IsOther f.ending other

    pub no_other : (e : Ending) → x.ending ≡ e → IsOther e → ⊥
    no_other e is other = is_none ways (subst IsOther (sym is) other)

  -- the datum that is taken of the memory, and the reasons why there is none
  module _ (alike : LawOfAlikeData) (s : machine.State) (word : ℕ) (shows : ShowsValue names call built s word) (words : List ℕ) (are : AreWordsOf s words) where
    takes_there : (d : Item) → IsTaken words word built.symbols (place_of call.datum.now) call.number d → CallExpands names call d
    takes_there d taken =
        let l = shows.leaves in
        let law = (alike names (call_means names call).store l.state.store (place_of call.datum.now) call.number l.result l.alike).1 in
        record {
          expander = expander;
          levels = expander_instructions;
          value = l.result;
          gives = record { ends = l.end; silent = shows.silent };
          datum = law.datum d (taken.there names l.state l.result (l.taken words are));
        }

    fails : (r : Reason) → IsRefused words word built.symbols (place_of call.datum.now) call.number r → Stops r
    fails r refused =
        let l = shows.leaves in
        let law = (alike names (call_means names call).store l.state.store (place_of call.datum.now) call.number l.result l.alike).1 in
        is_no_datum expander expander_instructions l.result r (record { ends = l.end; silent = shows.silent })
        (law.fails greatest_depth greatest_size r (refused.there names l.state l.result (l.taken words are)))

    stops_for : (stop : Stop) → StopsBy (place_of call.datum.now) (λ r. IsRefused words word built.symbols (place_of call.datum.now) call.number r) stop
        → CallStops names call stop
    stops_for (Refused r) h = (h.0, fails r.reason h.1)
    stops_for NoMemory h = tt

    pub takes : (place : Place) (symbols : List SymbolWord) → place ≡ place_of call.datum.now → symbols ≡ built.symbols
        → (d : Item) → IsTaken words word symbols place call.number d → CallExpands names call d
    takes place symbols here same d h =
        takes_there d (subst (λ (p : Place). IsTaken words word built.symbols p call.number d) here
        (subst (λ (l : List SymbolWord). IsTaken words word l place call.number d) same h))

    pub stops : (place : Place) (symbols : List SymbolWord) → place ≡ place_of call.datum.now → symbols ≡ built.symbols
        → (stop : Stop) → StopsBy place (λ r. IsRefused words word symbols place call.number r) stop → CallStops names call stop
    stops place symbols here same stop h =
        stops_for stop (subst (λ (p : Place). StopsBy p (λ r. IsRefused words word built.symbols p call.number r) stop) here
        (subst (λ (l : List SymbolWord). StopsBy place (λ r. IsRefused words word l place call.number r) stop) same h))

  -- the same of the run that was made
  module _ (run : ExpanderRun) (fits : length built.image.words ≤ expander_words) (h : HasRun built.image run) where
    pub prints : (word : ℕ) → run.ending ≡ Halt word → run.printed ≡ true → Stops ExpanderPrinted
    prints word e printed = of_printed fits word (sym h.ending ∙ e) (h.heard printed)

    pub shows : LawOfValuesLeft → (word : ℕ) → run.ending ≡ Halt word → run.printed ≡ false → ShowsValue names call built run.machine.state word
    shows values word e silent =
        subst (λ (s : machine.State). ShowsValue names call built s word) (sym h.state) (of_silent fits values word (sym h.ending ∙ e) (h.silent silent))

    pub is_signalled : (class : ℕ) → run.ending ≡ Unhandled class → Stops ExpanderUnhandled
    is_signalled class e = of_unhandled fits class (sym h.ending ∙ e)

    pub has_no_room : (asked left : ℕ) → run.ending ≡ Full asked left → Stops ExpanderArena
    has_no_room asked left e = of_full fits asked left (sym h.ending ∙ e)

    pub goes_on : run.ending ≡ Budget → Stops ExpanderBudget
    goes_on e = of_budget fits (sym h.ending ∙ e)

    pub ends_otherwise : (e : Ending) → run.ending ≡ e → IsOther e → ⊥
    ends_otherwise e is other = no_other fits e (sym h.ending ∙ is) other
