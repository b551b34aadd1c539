-- What is reported of a grade, and its status (this project's rule).
use Rattle.std.specs.Prelude.{ℕ, ◌+◌, ◌*◌, ◌/◌, ◌%◌, nat_lt, ◌==◌, if◌then◌else◌, Bool, true, false, List, [], ◌∷◌, ◌++◌, length, flat_map, codes}
use Rattle.grade_report.specs.Prelude.{Grade, Judged, Mismatch, Table, Verdict, count_by, decimal, device_text}
use Rattle.fuse_reports.specs.SimFaultText.{sim_fault_text}
use Rattle.wrong_fuses.specs.declared.verdict.Verdict.TheVariants.{Found, Same, Missed, Refused, OtherMode}

-- ---- which verdicts are counted together

abbrev pub finds : Verdict → Bool
finds (Found v) = true
finds Same = false
finds Missed = false
finds (Refused why) = false
finds OtherMode = false

abbrev pub is_same : Verdict → Bool
is_same (Found v) = false
is_same Same = true
is_same Missed = false
is_same (Refused why) = false
is_same OtherMode = false

abbrev pub is_missed : Verdict → Bool
is_missed (Found v) = false
is_missed Same = false
is_missed Missed = true
is_missed (Refused why) = false
is_missed OtherMode = false

abbrev pub is_refused : Verdict → Bool
is_refused (Found v) = false
is_refused Same = false
is_refused Missed = false
is_refused (Refused why) = true
is_refused OtherMode = true

-- how many of the fuses have such a verdict
abbrev pub count_of : (Verdict → Bool) → List Judged → ℕ
count_of test list = count_by (λ (it : Judged). test it.verdict) list

-- ---- lines

-- the row and the column of a fuse of the array; a control fuse has none
abbrev pub place_text : Table → ℕ → List ℕ
place_text t n =
    if nat_lt n (t.columns * t.rows)
    then codes " row " ++ decimal (n / t.columns) ++ codes " column " ++ decimal (n % t.columns)
    else []

-- what is said of a fuse: nothing, if it is found or the same
abbrev pub verdict_line : Table → ℕ → Verdict → List ℕ
verdict_line t n (Found v) = []
verdict_line t n Same = []
verdict_line t n Missed = codes "missed " ++ decimal n ++ place_text t n ++ codes "\n"
verdict_line t n (Refused why) = codes "refused " ++ decimal n ++ codes " " ++ sim_fault_text why ++ codes "\n"
verdict_line t n OtherMode = codes "refused " ++ decimal n ++ codes " WrongMode" ++ codes "\n"

abbrev pub judged_line : Table → Judged → List ℕ
judged_line t it = verdict_line t it.fuse it.verdict

-- the beginning of the last line: a word, the device, and how many vectors there are
abbrev pub head_text : Table → (word : List ℕ) → (vectors : ℕ) → List ℕ
head_text t word vectors = word ++ device_text t.name ++ codes " vectors " ++ decimal vectors

-- how many fuses there are, and how many the vectors find
abbrev pub found_text : List Judged → List ℕ
found_text list = codes " faults " ++ decimal (length list) ++ codes " found " ++ decimal (count_of finds list)

-- how many of each other verdict
abbrev pub others_text : List Judged → List ℕ
others_text list =
    codes " same " ++ decimal (count_of is_same list)
    ++ codes " missed " ++ decimal (count_of is_missed list)
    ++ codes " refused " ++ decimal (count_of is_refused list)

-- how many vectors and fuses there are, and how many of each verdict
abbrev pub grade_line : Table → Grade → List ℕ
grade_line t grade =
    head_text t (codes "graded ") grade.vectors
    ++ found_text grade.judged
    ++ others_text grade.judged
    ++ codes "\n"

-- a line for each fuse that is missed or refused, and then the one on the whole
abbrev pub verdict_lines : Table → Grade → List ℕ
verdict_lines t grade = flat_map (judged_line t) grade.judged ++ grade_line t grade

-- the line on a mismatch of the right device: the vector, the pin, the character that tests it, and what is found there
abbrev pub mismatch_line : Mismatch → List ℕ
mismatch_line it =
    codes "vector " ++ decimal it.vector
    ++ codes " pin " ++ decimal it.pin
    ++ codes " expects " ++ it.expects ∷ codes " finds " ++ it.finds ∷ codes "\n"

-- the level of the pins that no vector drives, and how many mismatches there are with it
abbrev pub level_text : (level : ℕ) → (mismatches : ℕ) → List ℕ
level_text level mismatches = codes " default " ++ decimal level ++ codes " mismatches " ++ decimal mismatches

-- the right device disagrees, with this level of the pins that no vector drives
abbrev pub disagreement_line : Table → (vectors : ℕ) → (level : ℕ) → (mismatches : ℕ) → List ℕ
disagreement_line t vectors level mismatches =
    head_text t (codes "disagrees ") vectors ++ level_text level mismatches ++ codes "\n"

abbrev pub disagreement_lines : Table → (vectors : ℕ) → (level : ℕ) → List Mismatch → List ℕ
disagreement_lines t vectors level list =
    flat_map mismatch_line list ++ disagreement_line t vectors level (length list)

-- ---- the whole

-- vectors with which the right device disagrees say that the design is wrong, and nothing else is reported
abbrev pub report_by : Table → Grade → (low high : List Mismatch) → List ℕ
report_by t grade [] [] = verdict_lines t grade
report_by t grade (it ∷ list) high = disagreement_lines t grade.vectors 0 (it ∷ list)
report_by t grade [] (it ∷ list) = disagreement_lines t grade.vectors 1 (it ∷ list)

abbrev pub report_of : Table → Grade → List ℕ
report_of t grade = report_by t grade grade.low grade.high

-- 4 if the right device disagrees, else 5 if some wrong fuse is missed, else 0
abbrev pub status_by : Grade → (low high : List Mismatch) → ℕ
status_by grade [] [] = if count_of is_missed grade.judged == 0 then 0 else 5
status_by grade (it ∷ list) high = 4
status_by grade [] (it ∷ list) = 4

abbrev pub status_of : Grade → ℕ
status_of grade = status_by grade grade.low grade.high
