-- The log built entry by entry is the log. After any entries the blocks passed on are all of their log but the last, and
-- the block under way is the last one.
-- Assumes nothing.
use Rattle.std.specs.Prelude.{◌≡◌, refl, List, [], ◌∷◌, ◌++◌, ℕ, zero, suc, ◌+◌, ◌-◌, ◌*◌, ◌/◌, ◌≤◌, ◌<◌, length, set, take, drop, replicate}
use Rattle.std.proofs.Common.{sym, ap, ap₂, ◌∙◌, append-nil, arith, length-append, length-drop, take_all, eq-eqb, ne_eqb}
use Rattle.std.proofs.Math.Decide.{ℕ_discrete}
use Rattle.std.proofs.Math.Seq.{set-append_seam, drop-append_seam, append_snoc}
use Rattle.std.proofs.lemmas.List.{take-append-le, drop-append-le}
use Rattle.std.proofs.lemmas.Bool.{lt-leb}
use Rattle.below.specs.Listed.{listed, listed_same}
use Rattle.entries.specs.Entry.{no_entry}
use Rattle.entries.specs.declared.Entry.{Entry}
use Rattle.cardlog.specs.Log.{content_of, block_at, log_of}
use Rattle.cardlog.specs.Feed.{added_rule, Fed, fed, none_fed, fed_one, feed, all_passed}

-- an entry behind the last one of a block that is not full
pub added_content : (number : ℕ) (entries : List Entry) (e : Entry) → length entries < 31
    → added_rule (content_of number entries) e ≡ content_of number (entries ++ (e ∷ []))
unfolding added_rule
added_content number entries e h =
    let n : ℕ = 30 - length entries in
    let room : 31 - length entries ≡ suc n = omega arith in
    let one : length (entries ++ (e ∷ [])) ≡ length entries + 1 = length-append entries (e ∷ []) in
    let left : 31 - length (entries ++ (e ∷ [])) ≡ n = omega arith in
    let put : set (entries ++ replicate (31 - length entries) no_entry) (length entries) e
    ≡ entries ++ (e ∷ []) ++ replicate (31 - length (entries ++ (e ∷ []))) no_entry =
    ap (λ k. set (entries ++ replicate k no_entry) (length entries) e) room
    ∙ set-append_seam entries no_entry (replicate n no_entry) e
    ∙ sym (append_snoc entries e (replicate n no_entry))
    ∙ ap (λ k. entries ++ (e ∷ []) ++ replicate k no_entry) (sym left) in
    rw (lt-leb 31 (length entries) h)
    (ap₂ (λ (k : ℕ) (all : List Entry). record { number = number; count = k; entries = all }) (sym one) put)

-- one more of a list given by its rule
listed_more : {A : Type 0} (f : ℕ → A) (i n : ℕ) → listed f i (suc n) ≡ listed f i n ++ (f (i + n) ∷ [])
unfolding listed
listed_more f i zero = ap (λ k. f k ∷ []) (omega arith)
listed_more f i (suc n) =
    let k : suc i + n ≡ i + suc n = omega arith in
    ap (λ rest. f i ∷ rest) (listed_more f (suc i) n ∙ ap (λ j. listed f (suc i) n ++ (f j ∷ [])) k)

-- how many blocks come before the last one
abbrev passed_in : List Entry → ℕ
passed_in entries = (length entries - 1) / 31

-- what is held after these entries
abbrev pub fed_by : List Entry → Fed
fed_by entries =
    fed (listed (block_at entries) 0 (passed_in entries))
    (content_of (passed_in entries) (drop (31 * passed_in entries) entries))

-- the blocks before block q, and block q behind them
passed_more : (entries : List Entry) (q n : ℕ) → q + 1 ≡ n → length (drop (31 * q) entries) ≤ 31
    → listed (block_at entries) 0 q ++ (content_of q (drop (31 * q) entries) ∷ []) ≡ listed (block_at entries) 0 n
passed_more entries q n e short =
    let none : 0 + q ≡ q = omega arith in
    let next : suc q ≡ n = omega arith in
    ap (λ part. listed (block_at entries) 0 q ++ (content_of q part ∷ []))
    (sym (take_all 31 (drop (31 * q) entries) short))
    ∙ ap (λ k. listed (block_at entries) 0 q ++ (block_at entries k ∷ [])) (sym none)
    ∙ sym (listed_more (block_at entries) 0 q) ∙ ap (listed (block_at entries) 0) next

module _ (entries : List Entry) (e : Entry) where
  abbrev more : List Entry
  more = entries ++ (e ∷ [])

  abbrev q : ℕ
  q = passed_in entries

  abbrev rest : List Entry
  rest = drop (31 * q) entries

  one_more : length more ≡ length entries + 1
  one_more = length-append entries (e ∷ [])

  rest_length : length rest ≡ length entries - 31 * q
  rest_length = length-drop (31 * q) entries

  -- a block before the last one has its 31 entries already
  same_block : (k : ℕ) → 31 * k + 31 ≤ length entries → block_at entries k ≡ block_at more k
  same_block k h =
      let long : length (drop (31 * k) entries) ≡ length entries - 31 * k = length-drop (31 * k) entries in
      ap (content_of k)
      (sym (ap (take 31) (drop-append-le (31 * k) entries (e ∷ []) (omega arith))
      ∙ take-append-le 31 (drop (31 * k) entries) (e ∷ []) (omega arith)))

  same_passed : (n : ℕ) → 31 * n ≤ length entries → listed (block_at entries) 0 n ≡ listed (block_at more) 0 n
  same_passed n h = listed_same (block_at entries) (block_at more) 0 n (λ k low high. same_block k (omega arith))

  -- the last block is full: it is passed on
  one_passed : length rest ≡ 31
      → fed (listed (block_at entries) 0 q ++ (content_of q rest ∷ [])) (added_rule (content_of (q + 1) []) e) ≡ fed_by more
  one_passed full =
      let next : q + 1 ≡ passed_in more = omega (arith, rest_length, one_more) in
      let end : 31 * passed_in more ≡ length entries = omega (arith, rest_length, one_more) in
      ap₂ fed
      (passed_more entries q (passed_in more) next (omega arith) ∙ same_passed (passed_in more) (omega arith))
      (added_content (q + 1) [] e (omega arith)
      ∙ ap₂ content_of next (sym (ap (λ k. drop k more) end ∙ drop-append_seam entries (e ∷ []))))

  -- it is not: the entry goes into it
  one_added : (length rest ≡ 31 → ⊥)
      → fed (listed (block_at entries) 0 q) (added_rule (content_of q rest) e) ≡ fed_by more
  one_added less =
      let same : q ≡ passed_in more = omega (arith, rest_length, one_more, less) in
      ap₂ fed (same_passed q (omega arith))
      (added_content q rest e (omega (arith, rest_length, less))
      ∙ ap (content_of q) (sym (drop-append-le (31 * q) entries (e ∷ []) (omega arith))))
      ∙ ap (λ k. fed (listed (block_at more) 0 k) (content_of k (drop (31 * k) more))) same

  -- one entry more
  fed_one_lem : fed_one (fed_by entries) e ≡ fed_by more
  fed_one_lem = elim (ℕ_discrete (length rest) 31) as (λ _. fed_one (fed_by entries) e ≡ fed_by more) [
    | yes full ↦ rw (eq-eqb (length rest) 31 full) (one_passed full)
    | no less ↦ rw (ne_eqb (length rest) 31 less) (one_added less)
  ]

-- many more
pub fed_more : (before entries : List Entry) → feed (fed_by before) entries ≡ fed_by (before ++ entries)
fed_more before [] = ap fed_by (sym (append-nil before))
fed_more before (e ∷ entries) =
    ap (λ x. feed x entries) (fed_one_lem before e) ∙ fed_more (before ++ (e ∷ [])) entries
    ∙ ap fed_by (append_snoc before e entries)

-- at the end all that is passed on is the log
pub fed_passed : (entries : List Entry) → all_passed (fed_by entries) ≡ log_of entries
fed_passed entries =
    let q : ℕ = passed_in entries in
    let size : length (drop (31 * q) entries) ≡ length entries - 31 * q = length-drop (31 * q) entries in
    elim (ℕ_discrete (length (drop (31 * q) entries)) 0) as (λ _. all_passed (fed_by entries) ≡ log_of entries) [
      | yes none ↦ rw (eq-eqb (length (drop (31 * q) entries)) 0 none) (ap (listed (block_at entries) 0) (omega arith))
      | no some ↦ rw (ne_eqb (length (drop (31 * q) entries)) 0 some)
          (passed_more entries q ((length entries + 30) / 31) (omega arith) (omega arith))
    ]

pub none_fed_lem : none_fed ≡ fed_by []
unfolding listed
none_fed_lem = refl

-- the log built entry by entry is the log
pub fed_all : (entries : List Entry) → all_passed (feed none_fed entries) ≡ log_of entries
fed_all entries =
    ap (λ x. all_passed (feed x entries)) none_fed_lem ∙ ap all_passed (fed_more [] entries) ∙ fed_passed entries
