-- Each law is its lemma.
use Rattle.tlb_model.proofs.Fitting.{row_words, rows_say}
use Rattle.tlb_model.proofs.Emptying.{emptied, grown}
use Rattle.tlb_model.proofs.laws.law_coherence.Goals as goal

pub returns-clause-rows : goal.returns-clause-rows
returns-clause-rows c = rows_say

pub returns-clause-words : goal.returns-clause-words
returns-clause-words c = row_words

pub returns-clause-grown : goal.returns-clause-grown
returns-clause-grown c = grown

pub returns-clause-emptied : goal.returns-clause-emptied
returns-clause-emptied c = emptied
