-- The word with which a run of a built image halts is taken for the value of the program.
use Rattle.std.proofs.Common.{◌≡◌, ◌⊎◌, inl, inr, ℕ, List, subst}
use Rattle.lang_meaning.specs.declared.program.ProgramRows.{ProgramRows}
use Rattle.lang_meaning.specs.Meaning.{Meant}
use Rattle.flat_language.specs.Flatten.{flat_program}
use Rattle.flat_language.specs.FlatNodes.{tables}
use Rattle.rv_machine.specs.declared.ending.Ending.TheVariants.{Budget, Halt}
use Rattle.rv_machine.specs.Run.{Ended}
use Rattle.mid_start.specs.declared.symbol_words.SymbolWord.{SymbolWord}
use Rattle.mid_taken.specs.TakenFrom.{TakenFrom}
use Rattle.back_build.specs.Means.{HaltsWith, EndsUnhandled, EndsFull}
use Rattle.back_build.specs.Values.{LeavesValue, LawOfValuesLeft}
use Rattle.back_build.specs.WordsLeft.{AreWordsOf}
use Rattle.back_build.proofs.WordsLeft.{law_of_words_left}

module _ (names : List (List ℕ)) (program : ProgramRows) (symbols : List SymbolWord) (m : Meant) (x : Ended) where
  halted_value : HaltsWith names program symbols m x → (word : ℕ) → x.ending ≡ Halt word → LeavesValue names symbols m x.at.state word
  halted_value h word e =
      let one : h.word ≡ word = cc (h.ending, e) in
      subst (LeavesValue names symbols m x.at.state) one
      (record {
        result = h.result;
        end = h.end;
        state = h.has_word.state;
        alike = h.has_word.alike;
        taken = λ words are. taken h words are;
      })
    where
      taken : (h : HaltsWith names program symbols m x) (words : List ℕ) → AreWordsOf x.at.state words
          → TakenFrom names h.has_word.state h.result words h.word symbols
      taken h words are = record {
        program = tables (flat_program program);
        places = h.has_word.places;
        machine = h.has_word.arena;
        represents = h.has_word.represents;
        of_value = h.has_word.of_value;
        same_words = law_of_words_left h.has_word.arena x.at h.has_word.leaves words are;
        listed = h.has_word.listed;
        once = h.has_word.once;
        serials = h.has_word.serials;
      }

  pub value_left :
      (x.ending ≡ Budget) ⊎ HaltsWith names program symbols m x ⊎ EndsUnhandled names program symbols m x ⊎ EndsFull names program symbols x
      → (word : ℕ) → x.ending ≡ Halt word → LeavesValue names symbols m x.at.state word
  value_left (inl budget) word e = absurd (cc (budget, e))
  value_left (inr (inl h)) word e = halted_value h word e
  value_left (inr (inr (inl u))) word e = let other = u.ending in absurd (cc (other, e))
  value_left (inr (inr (inr f))) word e = let other = f.ending in absurd (cc (other, e))

-- **the law of the values left**
pub law_of_values_left : LawOfValuesLeft
law_of_values_left names program symbols image built arena input fits small bytes n few word e =
    value_left names program symbols _ _ ((built arena input fits small bytes).ends n few) word e
