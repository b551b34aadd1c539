-- The spliced file is read as the fuses that were given, with the tests of the first file.
use Rattle.std.proofs.Common.{◌≡◌, ℕ, ◌+◌, ◌-◌, ◌*◌, ◌%◌, ◌^◌, ◌≤◌, ◌<◌, ◌==◌, ◌&&◌, nat_le, Bool, true, false, not, if◌then◌else◌, List, [], ◌∷◌, ◌++◌, length, take, drop, get_or, Option, None, Some, Ok, Err, refl, sym, ap, ◌∙◌, subst, arith, inl, inr, append_assoc, length-append, append-nil, codes, sum}
use Rattle.std.proofs.lemmas.Bool.{and_parts, cases_Bool}
use Rattle.std.proofs.lemmas.List.{take_at}
use Rattle.std.specs.Fmt.{decimal}
use Rattle.std.specs.List.{list_all}
use Rattle.jedec_file.specs.CanonicalFile.{IsPlainName, canonical_body, canonical_file, control_line, with_sum}
unfoldable use Rattle.jedec_file.specs.CanonicalFile.{row_lines}
use Rattle.jedec_file.specs.ControlLines.{IsIntactPastLines}
use Rattle.jedec_file.specs.FieldLists.{fields_of, pieces}
unfoldable use Rattle.jedec_file.specs.FieldLists.{behind_design, fields_from}
use Rattle.jedec_file.specs.FileText.{ETX, STX, four_hex, line, space}
use Rattle.jedec_file.specs.Frame.{Framed}
unfoldable use Rattle.jedec_file.specs.Frame.{frame_of}
use Rattle.jedec_file.specs.FuseFile.{FuseFile}
unfoldable use Rattle.jedec_file.specs.FuseFile.{contents_of, file_of}
use Rattle.jedec_file.specs.FuseSums.{fuse_sum_of}
use Rattle.jedec_file.specs.declared.field.Field.{Field}
use Rattle.jedec_file.specs.Refusals.{Read}
use Rattle.std.specs.List.{All}
use Rattle.std.proofs.lemmas.List.Elements.{All-nil}
use Rattle.jedec_writer.proofs.LinesRead.{IsVectorText}
use Rattle.jedec_writer.proofs.FrameRead.{frame_read}
use Rattle.jedec_writer.proofs.SaidBack.{fields_read, inner_plain, is_inner, line_before, says_both}
use Rattle.jedec_writer.proofs.TextRead.{design_is_plain, design_text, lines_say, written_fields, written_lines}
use Rattle.jedec_writer.proofs.Words.{both_pass, is_plain}
use Rattle.pld_base.specs.DeviceNames.{device_text}
use Rattle.pld_device.specs.Laws.{IsDevice}
use Rattle.pld_device.specs.Table.{Table}
use Rattle.spliced_files.specs.Header.{design_of, has_marks, title_of}
use Rattle.spliced_files.specs.Kept.{behind_first, kept_lines}
use Rattle.spliced_files.specs.Spliced.{HasNoEnd, head_of, spliced_text, with_fuses}
use Rattle.spliced_files.proofs.FrameText.{text_has_no_end}
use Rattle.spliced_files.proofs.KeptFields.{IsKeptOf, both_ok, fields_kept, nothing_kept, ok_same}
use Rattle.spliced_files.proofs.Plain.{pass_drop, pass_take, pieces_plain}
use Rattle.spliced_files.proofs.SplicedFields.{contents_are}

-- ---- the name

-- a part of the design text is as plain as the whole
title_plain : (design device : List ℕ) → list_all is_plain design ≡ true → IsPlainName (title_of design device)
title_plain design device plain = by_test (nat_le (10 + length device) (length design) && has_marks design device)
  where
    by_test : (b : Bool) → list_all is_plain (if b then take (length design - (10 + length device)) (drop 9 design) else design) ≡ true
    by_test true = pass_take is_plain (length design - (10 + length device)) (drop 9 design) (pass_drop is_plain 9 design plain)
    by_test false = plain

first_plain : (ps : List (List ℕ)) → list_all (list_all is_plain) ps ≡ true → list_all is_plain (get_or ps 0 []) ≡ true
first_plain [] pass = refl
first_plain (p ∷ ps) pass = (and_parts (list_all is_plain p) (list_all (list_all is_plain) ps) pass).0

pub name_is_plain : (text device : List ℕ) → HasNoEnd text → IsPlainName (title_of (design_of text) device)
name_is_plain text device inner = title_plain (design_of text) device (first_plain (pieces text) (pieces_plain text inner))

pub name_is_plain_too : (text design device name : List ℕ) → HasNoEnd text → design ≡ design_of text → name ≡ title_of design device → IsPlainName name
name_is_plain_too text design device name inner first is =
    subst IsPlainName (sym is) (subst (λ (bs : List ℕ). IsPlainName (title_of bs device)) (sym first) (name_is_plain text device inner))

-- ---- the head of the file

-- the lines of the head, after the header
abbrev rest_of : Table → List Bool → List ℕ
rest_of t fuses = written_lines t fuses []

regroup : (a b c d e f g h kept end : List ℕ) → (a ++ b ++ c ++ d ++ e ++ f ++ g ++ h) ++ kept ++ end ≡ (a ++ ((b ++ c ++ [] ++ d ++ e ++ [] ++ f ++ g ++ h ++ []) ++ kept)) ++ end
regroup a b c d e f g h kept end = simp (append_assoc, append-nil)

pub body_is : (t : Table) (name : List ℕ) (fuses : List Bool) (kept : List ℕ)
    → head_of t name fuses ++ kept ++ ETX ∷ [] ≡ STX ∷ ((design_text t name ++ 42 ∷ 13 ∷ 10 ∷ (rest_of t fuses ++ kept)) ++ ETX ∷ [])
body_is t name fuses kept =
    regroup (line (STX ∷ design_text t name)) (line (codes "QP" ++ decimal t.pins)) (line (codes "QF" ++ decimal t.fuses)) (line (codes "F0")) (line (codes "G0"))
    (row_lines t.columns fuses t.rows) (control_line t fuses) (line (codes "C" ++ four_hex (fuse_sum_of fuses))) kept (ETX ∷ [])
    ∙ ap (λ (bs : List ℕ). bs ++ ETX ∷ []) (line_before (STX ∷ design_text t name) (rest_of t fuses ++ kept))

-- the canonical file without vectors is the head, the end byte and a sum
canonical_is : (t : Table) (name : List ℕ) (fuses : List Bool) → canonical_body t name fuses [] ≡ head_of t name fuses ++ ETX ∷ []
canonical_is t name fuses =
    flat (line (STX ∷ design_text t name)) (line (codes "QP" ++ decimal t.pins)) (line (codes "QF" ++ decimal t.fuses)) (line (codes "F0")) (line (codes "G0"))
    (row_lines t.columns fuses t.rows) (control_line t fuses) (line (codes "C" ++ four_hex (fuse_sum_of fuses))) (ETX ∷ [])
  where
    flat : (a b c d e f g h end : List ℕ) → a ++ b ++ c ++ [] ++ d ++ e ++ [] ++ f ++ g ++ h ++ [] ++ end ≡ (a ++ b ++ c ++ d ++ e ++ f ++ g ++ h) ++ end
    flat a b c d e f g h end = simp append_assoc

canonical_cut : (t : Table) (name : List ℕ) (fuses : List Bool) → (total : ℕ) × (canonical_file t name fuses [] ≡ head_of t name fuses ++ ETX ∷ four_hex total)
canonical_cut t name fuses =
    let body = canonical_is t name fuses in (
      sum (head_of t name fuses ++ ETX ∷ []) % 2 ^ 16,
      ap with_sum body ∙ append_assoc (head_of t name fuses) (ETX ∷ []) (four_hex (sum (head_of t name fuses ++ ETX ∷ []) % 2 ^ 16)),
    )

pub canonical_long : (t : Table) (name : List ℕ) (fuses : List Bool) → length (canonical_file t name fuses []) ≡ length (head_of t name fuses) + 5
canonical_long t name fuses =
    let cut = canonical_cut t name fuses in
    ap length cut.1 ∙ length-append (head_of t name fuses) (ETX ∷ four_hex cut.0)

pub head_is : (t : Table) (name : List ℕ) (fuses : List Bool) (n : ℕ) → n + 5 ≡ length (canonical_file t name fuses []) → take n (canonical_file t name fuses []) ≡ head_of t name fuses
head_is t name fuses n is =
    let cut = canonical_cut t name fuses in
    ap (take n) cut.1 ∙ take_at (head_of t name fuses) (ETX ∷ four_hex cut.0) n (omega (arith, is, canonical_long t name fuses))

-- ---- reading

file_by_steps : (t : Table) (bytes : List ℕ) (framed : Framed) (fields : List Field) (file : FuseFile) → frame_of bytes ≡ Ok framed → fields_of t framed ≡ Ok fields → contents_of t fields ≡ Ok file → file_of t bytes ≡ Ok file
unfolding file_of
file_by_steps t bytes framed fields file frame read says = rw (frame, read, says) refl

-- what is read of a file step by step
pub record HasSteps (f : Table) (bytes : List ℕ) (file : FuseFile) : Type 0 where
  pub framed : Framed
  pub fields : List Field
  pub frame : frame_of bytes ≡ Ok framed
  pub read : fields_of f framed ≡ Ok fields
  pub says : contents_of f fields ≡ Ok file

pub steps_of : (f : Table) (bytes : List ℕ) (file : FuseFile) → file_of f bytes ≡ Ok file → HasSteps f bytes file
unfolding file_of
steps_of f bytes file is =
    let frame = both_ok (frame_of bytes) _ file is in
    let fields = both_ok (fields_of f frame.0) _ file frame.2 in
    record { framed = frame.0; fields = fields.0; frame = frame.1; read = fields.1; says = fields.2 }

module _ (f t : Table) (pins : f.pins ≡ t.pins) (is : IsDevice t) (fuses : List Bool) (long : length fuses ≡ t.fuses) (intact : IsIntactPastLines t fuses) where
  -- the fields after the design text that are kept
  text_kept : (framed : Framed) (fields : List Field) → HasNoEnd framed.text → fields_of f framed ≡ Ok fields → IsKeptOf t fields (kept_lines (behind_first (pieces framed.text)))
  unfolding behind_design
  text_kept framed fields inner read = by_pieces (pieces framed.text) (pieces_plain framed.text inner) read
    where
      by_pieces : (ps : List (List ℕ)) → list_all (list_all is_plain) ps ≡ true → behind_design f framed.at ps ≡ Ok fields → IsKeptOf t fields (kept_lines (behind_first ps))
      by_pieces [] plain read = subst (λ (fs : List Field). IsKeptOf t fs []) (ok_same [] fields (Ok []) refl read) (nothing_kept f t pins)
      by_pieces (design ∷ []) plain read = absurd cc
      by_pieces (design ∷ next ∷ rest) plain read =
          fields_kept f t pins (next ∷ rest) (framed.at + length design + 1) fields (and_parts (list_all is_plain design) (list_all (list_all is_plain) (next ∷ rest)) plain).1 read

  pub spliced_reads : (framed : Framed) (fields : List Field) (file : FuseFile) → HasNoEnd framed.text → fields_of f framed ≡ Ok fields → contents_of f fields ≡ Ok file
      → file_of t (spliced_text f t fuses framed.text) ≡ Ok (with_fuses t fuses file)
  spliced_reads framed fields file inner read says =
      let name = title_of (design_of framed.text) (device_text f.name) in
      let plain = design_is_plain t name (name_is_plain framed.text (device_text f.name) inner) in
      let kept = text_kept framed fields inner read in
      let lines = kept_lines (behind_first (pieces framed.text)) in
      let both = says_both (lines_say t is fuses long [] (omega arith) (All-nil (IsVectorText t))) kept.says in
      let text = design_text t name ++ 42 ∷ 13 ∷ 10 ∷ (rest_of t fuses ++ lines) in
      let no_end = both_pass is_inner (design_text t name) (42 ∷ 13 ∷ 10 ∷ (rest_of t fuses ++ lines)) (inner_plain (design_text t name) plain) both.inner in
      file_by_steps t (spliced_text f t fuses framed.text) (record { at = 1; text = text }) (written_fields t fuses [] ++ kept.kept) (with_fuses t fuses file)
      (ap with_frame (body_is t name fuses lines) ∙ frame_read text no_end)
      (fields_read t 1 (design_text t name) (rest_of t fuses ++ lines) (written_fields t fuses [] ++ kept.kept) plain both)
      (contents_are t is fuses long intact kept.kept kept.quiet f pins fields kept.tests file says)
    where
      with_frame : List ℕ → Read Framed
      with_frame bs = frame_of (with_sum bs)

  pub file_reads : (bytes text out : List ℕ) (at : ℕ) (file : FuseFile) → frame_of bytes ≡ Ok (record { at = at; text = text }) → out ≡ spliced_text f t fuses text
      → file_of f bytes ≡ Ok file → file_of t out ≡ Ok (with_fuses t fuses file)
  file_reads bytes text out at file frame made is =
      let steps = steps_of f bytes file is in
      let framed : record { at = at; text = text } ≡ steps.framed = ok_same (record { at = at; text = text }) steps.framed (frame_of bytes) frame steps.frame in
      let read : fields_of f (record { at = at; text = text }) ≡ Ok steps.fields = subst (λ (x : Framed). fields_of f x ≡ Ok steps.fields) (sym framed) steps.read in
      ap (file_of t) made ∙ spliced_reads (record { at = at; text = text }) steps.fields file (text_has_no_end bytes (record { at = at; text = text }) frame) read steps.says
