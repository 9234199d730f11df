-- What each function promises, and that only one outcome meets it.
use Rattle.std.specs.Prelude.{◌≡◌, List, ℕ}
use Rattle.laws.proofs.Bools.{same}
use Rattle.numbers.specs.Numbers.{number_in}
use Rattle.batch.specs.Batch.{judged, batch_verdict, entries_after}
use Rattle.batch.specs.declared.Entry.{Entry}

-- batch::judge
abbrev pub EntryJudged : List ℕ → Entry → Entry → Type 0
EntryJudged buffer entry r = r ≡ judged buffer entry

pub entry_judged_once : (buffer : List ℕ) (entry r s : Entry) → EntryJudged buffer entry r → EntryJudged buffer entry s → r ≡ s
entry_judged_once buffer entry r s p q = same p q

-- batch::pennywax_apart_judge_batch
pub record BatchJudged (buffer : List ℕ) (before : List Entry) (r : ℕ) (after : List Entry) : Type 0 where
  pub number : r ≡ number_in (batch_verdict before)
  pub entries : after ≡ entries_after (batch_verdict before) buffer before

pub batch_judged_once : (buffer : List ℕ) (before : List Entry) (r r' : ℕ) (after after' : List Entry)
    → BatchJudged buffer before r after → BatchJudged buffer before r' after' → (r ≡ r') × (after ≡ after')
batch_judged_once buffer before r r' after after' p q = (same p.number q.number, same p.entries q.entries)
