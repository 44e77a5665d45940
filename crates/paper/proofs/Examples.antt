-- Worked examples, computed: the listing of document 01, the specification's figure 3, refusals with page and place, and plans made by hand for the writer.
-- Assumes nothing.
use mathlib.Core.Path.{◌≡◌, refl}
use mathlib.Core.Bool.{Bool, true, ◌&&◌}
use mathlib.Core.List.{List, [], ◌∷◌, ◌++◌}
use Prim.Native.Nat.{ℕ}
use Prim.Native.String as Str
use lib.Dec.{eqb}
use lib.ListN.{length, replicate}
use Rattle.paper.specs.Lists.{bytes, if, same, every}
use Rattle.paper.specs.Fields.{Kind, unknown, P, A, O, S, M, W, R, X, Field, fields_of}
use Rattle.paper.specs.Plan.{Slots, Head, Row, Plan, blank}
use Rattle.paper.specs.Judging.{judge, tail}
use Rattle.paper.specs.Reading.{Answer, refusal, plan, read}
use Rattle.paper.specs.Writing.{Written, bad_call, unsound, too_long, written, good_element, sound_head, sound_row, page, cuttable, place14, fresh}
use Rattle.paper.specs.Listing.{plan_lines, listing, refusal_lines, planlist}
use Rattle.paper.proofs.NineCases.{Case, case, refused, alike, lists, right, sheet, medication}

-- text in pieces
abbrev text : List Str.String → List ℕ
text [] = []
text (s ∷ l) = bytes s ++ text l

-- lines, each ended by byte 10
abbrev lines : List Str.String → List ℕ
lines [] = []
lines (s ∷ l) = bytes s ++ 10 ∷ lines l

-- ---- document 01, "The listing"

-- the example's input
abbrev pub example : List ℕ
example = text (
    "<MP v=\"027\" U=\"00112233445566778899AABBCCDDEEFF\"><P g=\"Ida\" f=\"Kern\" b=\"19510704\"/><A n=\"Praxis Holm\" t=\"2023-03-01T09:30:00\"/>"
    ∷ "<S c=\"412\"><M v=\"0,5\" m='1' d=\"0\" p=\"02394428\"/></S></MP>" ∷ [])

-- the example's listing
abbrev pub example_listing : List ℕ
example_listing = lines (
    "MP.v=027"
    ∷ "MP.U=00112233445566778899AABBCCDDEEFF"
    ∷ "MP.l=de-DE"
    ∷ "MP.P.g=Ida"
    ∷ "MP.P.f=Kern"
    ∷ "MP.P.b=19510704"
    ∷ "MP.A.n=Praxis Holm"
    ∷ "MP.A.t=2023-03-01T09:30:00"
    ∷ "row=H"
    ∷ "MP.S.c=412"
    ∷ "row=M"
    ∷ "MP.S.M.p=2394428"
    ∷ "MP.S.M.m=1"
    ∷ "MP.S.M.v=0,5"
    ∷ "rows=2" ∷ [])

-- planlist prints the example's listing, byte for byte
pub example_listed : planlist example ≡ example_listing
unfolding planlist read judge fields_of listing plan_lines
example_listed = refl

-- "A refusal prints three lines": two pages are read, and the second, which is empty, is refused
pub refusal_listed : planlist (example ++ 0 ∷ []) ≡ lines ("refused=2" ∷ "page=2" ∷ "place=0" ∷ [])
unfolding planlist read judge fields_of refusal_lines
refusal_listed = refl

-- "none is one empty page"
pub nothing_listed : planlist [] ≡ lines ("refused=2" ∷ "page=1" ∷ "place=0" ∷ [])
unfolding planlist read judge refusal_lines
nothing_listed = refl

-- ---- source document 000, figure 3

-- the figure as printed, with its line breaks and indentations, its change marks resolved, and this weight
abbrev pub figure3 : Str.String → List ℕ
figure3 w =
    lines ("<MP v=\"027\"" ∷ "U=\"F5FDC0E5E10E44EFBAC1D4A2B540A957\" l=\"de-DE\">"
    ∷ "  <P g=\"Michaela\" f=\"Musterhausen\" egk=\"P123456789\" b=\"19361213\" s=\"W\" t=\"Dr.\" v=\"von\"" ∷ "z=\"Freifrau\"/>"
    ∷ "  <A"
    ∷ "lanr=\"123456667\" n=\"Dr. Manfred Überall\" s=\"Hauptstraße 55\" z=\"01234\" c=\"Am Ort\" p=\"04562-12345\" e=\"m.ue@praxis-ueberall.de\" t=\"2023-04-01T12:00:00\"/>" ∷ [])
    ++ (text ("  <O ai=\"Penicillin\" w=\"" ∷ w ∷ "\"/>" ∷ [])
    ++ lines ("" ∷ "  <S>"
    ∷ "    <M p=\"4213974\" f=\"TAB\" m=\"1\" du=\"1\" i=\"während der Mahlzeit\"" ∷ "r=\"Bluthochdruck\">"
    ∷ "    <W w=\"Ramipril\" s=\"5 mg\"/>"
    ∷ "    </M>"
    ∷ "    <M p=\"6453174\" m=\"1\" du=\"1\" i=\"während der Mahlzeit\"" ∷ "r=\"Bluthochdruck\"/>"
    ∷ "    <M p=\"4129423\" v=\"1\" du=\"1\" i=\"während der Mahlzeit\" r=\"art." ∷ "Verschluss\"/>"
    ∷ "    <M p=\"232207\" v=\"1\" du=\"1\" i=\"nach der Mahlzeit\" r=\"erhöhte Blutfette\"/>"
    ∷ "    <M p=\"544786\" m=\"20\" v=\"10\" du=\"p\" i=\"subkutan\" r=\"Diabetes\"/>"
    ∷ "    </S>"
    ∷ "    <S t=\"Bedarfsmedikation\">"
    ∷ "      <M p=\"11084508\" t=\"max. 3\" du=\"5\" i=\"akut\" r=\"Herzschmerzen\"/>"
    ∷ "      <M p=\"2083906\" h=\"1\" du=\"1\" i=\"bei Bedarf\" r=\"Schlaflosigkeit\"/>"
    ∷ "      <M p=\"9285530\" m=\"1\" d=\"1\" v=\"1\" du=\"1\" r=\"Erkältung/ Nasennebenhöhlen\"/>"
    ∷ "    </S>"
    ∷ "    <S c=\"424\">"
    ∷ "      <M p=\"7273534\" m=\"1\" d=\"1\" v=\"1\" du=\"1\" i=\"alle 8 Stunden einnehmen\""
    ∷ "r=\"Nebenhöhlenentzündung\" x=\"Sofort mit Einnahme beginnen, für 10 Tage (bis 10.03.2023)\"/>"
    ∷ "    </S>"
    ∷ "    <S c=\"422\">"
    ∷ "      <X t=\"Bitte messen Sie Ihren Blutdruck täglich!\"/>"
    ∷ "    </S>"
    ∷ "</MP>" ∷ []))

-- its fresh page: the fields in writing order, a and z written, no space outside values
abbrev pub figure3_fresh : List ℕ
figure3_fresh = text (
    "<MP v=\"027\" U=\"F5FDC0E5E10E44EFBAC1D4A2B540A957\" l=\"de-DE\" a=\"1\" z=\"1\">"
    ∷ "<P g=\"Michaela\" f=\"Musterhausen\" b=\"19361213\" s=\"W\" egk=\"P123456789\" t=\"Dr.\" v=\"von\" z=\"Freifrau\"/>"
    ∷ "<A lanr=\"123456667\" n=\"Dr. Manfred Überall\" s=\"Hauptstraße 55\" z=\"01234\" c=\"Am Ort\" p=\"04562-12345\" e=\"m.ue@praxis-ueberall.de\" t=\"2023-04-01T12:00:00\"/>"
    ∷ "<O ai=\"Penicillin\" w=\"85\"/>"
    ∷ "<S><M p=\"4213974\" f=\"TAB\" m=\"1\" du=\"1\" i=\"während der Mahlzeit\" r=\"Bluthochdruck\"><W w=\"Ramipril\" s=\"5 mg\"/></M>"
    ∷ "<M p=\"6453174\" m=\"1\" du=\"1\" i=\"während der Mahlzeit\" r=\"Bluthochdruck\"/>"
    ∷ "<M p=\"4129423\" v=\"1\" du=\"1\" i=\"während der Mahlzeit\" r=\"art. Verschluss\"/>"
    ∷ "<M p=\"232207\" v=\"1\" du=\"1\" i=\"nach der Mahlzeit\" r=\"erhöhte Blutfette\"/>"
    ∷ "<M p=\"544786\" m=\"20\" v=\"10\" du=\"p\" i=\"subkutan\" r=\"Diabetes\"/></S>"
    ∷ "<S t=\"Bedarfsmedikation\"><M p=\"11084508\" t=\"max. 3\" du=\"5\" i=\"akut\" r=\"Herzschmerzen\"/>"
    ∷ "<M p=\"2083906\" h=\"1\" du=\"1\" i=\"bei Bedarf\" r=\"Schlaflosigkeit\"/>"
    ∷ "<M p=\"9285530\" m=\"1\" d=\"1\" v=\"1\" du=\"1\" r=\"Erkältung/ Nasennebenhöhlen\"/></S>"
    ∷ "<S c=\"424\"><M p=\"7273534\" m=\"1\" d=\"1\" v=\"1\" du=\"1\" i=\"alle 8 Stunden einnehmen\" r=\"Nebenhöhlenentzündung\""
    ∷ " x=\"Sofort mit Einnahme beginnen, für 10 Tage (bis 10.03.2023)\"/></S>"
    ∷ "<S c=\"422\"><X t=\"Bitte messen Sie Ihren Blutdruck täglich!\"/></S></MP>" ∷ [])

-- the fresh pages of what was read; none for a refusal of any kind
abbrev pub fresh_of : Answer → List (List ℕ)
fresh_of (refusal n k i) = []
fresh_of (plan p) = pages_of (fresh p)
  where
    pages_of : Written → List (List ℕ)
    pages_of bad_call = []
    pages_of (unsound r) = []
    pages_of (too_long r) = []
    pages_of (written f) = f

-- the figure is read, and written as one fresh page
pub figure3_fresh_lem : fresh_of (read (figure3 "85" ∷ [])) ≡ figure3_fresh ∷ []
unfolding read judge fields_of fresh cuttable page sound_head sound_row good_element
figure3_fresh_lem = refl

-- ---- refusals 1 to 11, and what is read beside them (12 stands with the sizes of the nine cases)

-- page a of z, with these elements after A
abbrev page_of : Str.String → List ℕ → List ℕ
page_of az x = sheet "19510704" az x

-- the same head but for the time of print: page 2 of a second print with the same U
abbrev other_print : List ℕ
other_print = bytes "<MP v='027' U='00112233445566778899AABBCCDDEEFF' a='2' z='2'><P g='Ida' f='Kern' b='19510704'/><A n='Praxis Holm' t='2023-03-02T09:30:00'/></MP>"

-- each case under the number of its refusal, 0 where the pages are read
abbrev pub refusals : List Case
refusals =
    -- 1: ten pages
    case 1 (replicate 10 (bytes "<MP/>")) (refused 1 0 0)
    -- 2: the second page is empty
    ∷ case 2 (page_of " a='1' z='2'" [] ∷ [] ∷ []) (refused 2 2 0)
    -- 3: byte 130
    ∷ case 3 ((bytes "<MP>" ++ 130 ∷ bytes "</MP>") ∷ []) (refused 3 1 4)
    -- 4: an end tag of another name, an unknown reference, a page that ends too early, two outermost elements
    ∷ case 4 (bytes "<MP></MPX>" ∷ []) (refused 4 1 8)
    ∷ case 4 (bytes "<MP v='&foo;'/>" ∷ []) (refused 4 1 8)
    ∷ case 4 (bytes "<MP v='027'" ∷ []) (refused 4 1 11)
    ∷ case 4 (bytes "<MP/><MP/>" ∷ []) (refused 4 1 5)
    -- 5: another outermost element, an attribute twice, P after A, a fourth W
    ∷ case 5 (bytes "<XX/>" ∷ []) (refused 5 1 0)
    ∷ case 5 (bytes "<MP v='027' v='027'/>" ∷ []) (refused 5 1 0)
    ∷ case 5 (bytes "<MP v='027'><A/><P/></MP>" ∷ []) (refused 5 1 16)
    ∷ case 5 (page_of "" (bytes "<S><M><W w='a'/><W w='b'/><W w='c'/><W w='d'/></M></S>") ∷ []) (refused 5 1 163)
    -- 6: another edition, none, and a number reference that breaks it
    ∷ case 6 (bytes "<MP v='026'/>" ∷ []) (refused 6 1 0)
    ∷ case 6 (bytes "<MP/>" ∷ []) (refused 6 1 0)
    ∷ case 6 (bytes "<MP v='&#130;027'/>" ∷ []) (refused 6 1 0)
    -- 7: a above z, a number reference outside the bytes of a value, a line break where none is allowed
    ∷ case 7 (page_of " a='2' z='1'" [] ∷ []) (refused 7 1 0)
    ∷ case 7 (medication "a='&#130;'") (refused 7 1 130)
    ∷ case 7 (medication "a='x~y'") (refused 7 1 130)
    -- 7: figure 3 with its weight as printed, at the `<` of O
    ∷ case 7 (figure3 "85.0" ∷ []) (refused 7 1 320)
    -- 8: an M without p, a and W; a without z; no A; an excluded pair of empty values
    ∷ case 8 (medication "m='1'") (refused 8 1 130)
    ∷ case 8 (page_of " a='1'" [] ∷ []) (refused 8 1 0)
    ∷ case 8 (bytes "<MP v='027' U='00112233445566778899AABBCCDDEEFF'><P g='Ida' f='Kern' b='19510704'/></MP>" ∷ []) (refused 8 1 0)
    ∷ case 8 (medication "a='x' f='' fd=''") (refused 8 1 130)
    -- 9: page 2 of a second print
    ∷ case 9 (page_of " a='1' z='2'" [] ∷ other_print ∷ []) (refused 9 2 0)
    -- 10: page 1 twice
    ∷ case 10 (page_of " a='1' z='2'" [] ∷ page_of " a='1' z='2'" [] ∷ []) (refused 10 2 0)
    -- 11: the lowest missing number
    ∷ case 11 (page_of " a='2' z='3'" [] ∷ []) (refused 11 1 0)
    ∷ case 11 (page_of " a='3' z='3'" [] ∷ page_of " a='1' z='3'" [] ∷ []) (refused 11 2 0)
    -- the lowest number of a page comes first, not the lowest place: 8 stands at 130, and 7 at 140
    ∷ case 7 (page_of "" (bytes "<S><M m='1'/><M p='1'/></S>") ∷ []) (refused 7 1 140)
    -- the first page's refusal comes first, not the lowest number: the second page would give 3
    ∷ case 8 (medication "m='1'" ++ (130 ∷ []) ∷ []) (refused 8 1 130)
    -- read: figure 3 as printed and as its fresh page; the edition spelled with a reference and a blank
    ∷ case 0 (figure3 "85" ∷ []) (alike (figure3_fresh ∷ []))
    ∷ case 0 (figure3 "85" ∷ []) (lists "MP.S.M.r=art. Verschluss")
    ∷ case 0 (bytes "<MP v='0&#50;7 ' U='00112233445566778899AABBCCDDEEFF'><P g='Ida' f='Kern' b='19510704'/><A n='Praxis Holm' t='2023-03-01T09:30:00'/></MP>" ∷ [])
    (alike (page_of "" [] ∷ []))
    -- read: two pages out of order give the rows of page 1 first
    ∷ case 0 (page_of " z='2' a='2'" (bytes "<S><X t='second'/></S>") ∷ page_of " a='1' z='2'" (bytes "<S c='412'><X t='first'/></S>") ∷ [])
    (alike (page_of "" (bytes "<S c='412'><X t='first'/><X t='second'/></S>") ∷ []))
    ∷ []

-- the cases hold, number, page and place
pub refusals_right : every right refusals ≡ true
unfolding right read judge fields_of plan_lines
refusals_right = refl

-- ---- plans made by hand, for the writer: refusals 1, 13 and 14

-- a field's letters and its text
abbrev Given : Type 0
Given = Str.String × Str.String

-- the text given for these letters; absent if there is none
abbrev given_for : List ℕ → List Given → List ℕ
given_for n [] = []
given_for n (g ∷ gs) = if (same n (bytes g.0)) (bytes g.1) (given_for n gs)

-- an element's slots from what is given
abbrev slots_from : List Field → List Given → Slots
slots_from [] gs = []
slots_from (f ∷ fs) gs = given_for f.letters gs ∷ slots_from fs gs

-- a row of a kind without package number and substances
abbrev row_of : Kind → List Given → Row
row_of k gs = record { kind = k; pzn = 0; slots = slots_from (fields_of k) gs; ws = [] }

-- a medication with this package number (0 is none) and these substances
abbrev medication_of : ℕ → List Given → List (List Given) → Row
medication_of n gs ws = record { kind = M; pzn = n; slots = tail (slots_from (fields_of M) gs); ws = substances ws }
  where
    substances : List (List Given) → List Slots
    substances [] = []
    substances (w ∷ l) = slots_from (fields_of W) w ∷ substances l

-- a head with this patch, this language and this birthday
abbrev pub head_of : ℕ → Str.String → Str.String → Head
head_of n l b = record {
  patch = n;
  ident = bytes "00112233445566778899AABBCCDDEEFF";
  lang = bytes l;
  person = slots_from (fields_of P) (("g", "Ida") ∷ ("f", "Kern") ∷ ("b", b) ∷ []);
  author = slots_from (fields_of A) (("n", "Praxis Holm") ∷ ("t", "2023-03-01T09:30:00") ∷ []);
  measures = blank (fields_of O);
}

-- a sound head
abbrev good_head : Head
good_head = head_of 0 "de-DE" "19510704"

-- a head that is sound and too long: `"` grows to six bytes
abbrev long_head : Head
long_head = record {
  patch = 0;
  ident = good_head.ident;
  lang = good_head.lang;
  person = replicate 45 34 ∷ replicate 45 34 ∷ bytes "19510704" ∷ [] ∷ [] ∷ replicate 20 34 ∷ replicate 20 34 ∷ replicate 20 34 ∷ [];
  author = [] ∷ [] ∷ [] ∷ replicate 50 34 ∷ replicate 30 34 ∷ [] ∷ [] ∷ [] ∷ [] ∷ bytes "2023-03-01T09:30:00" ∷ [];
  measures = good_head.measures;
}

-- a note of 200 marks `"`: it fills a page
abbrev long_note : Row
long_note = record { kind = X; pzn = 0; slots = replicate 200 34 ∷ []; ws = [] }

-- a plan whose second row is this one, behind a heading
abbrev second : Row → Plan
second r = record { head = good_head; rows = row_of S (("c", "412") ∷ []) ∷ r ∷ [] }

-- a plan with this head and these rows
abbrev pub plan_of : Head → List Row → Plan
plan_of h rs = record { head = h; rows = rs }

-- a plan for the writer, and what is expected: a refusal's number and place, or 0 and the number of fresh pages
pub record Try : Type 0 where
  pub handed : Plan
  pub number : ℕ
  pub place : ℕ

-- a line of the table
abbrev try : Plan → ℕ → ℕ → Try
try p n i = record { handed = p; number = n; place = i }

-- the writer's answer is as expected
abbrev answered : Written → ℕ → ℕ → Bool
answered bad_call n i = eqb n 1 && eqb i 0
answered (unsound r) n i = eqb n 13 && eqb i r
answered (too_long r) n i = eqb n 14 && eqb i r
answered (written f) n i = eqb n 0 && eqb i (length f)

-- the test of a plan
unfoldable pub tried : Try → Bool
tried t = answered (fresh t.handed) t.number t.place

-- refusal 13 on both sides of its rules, then 14 and 1
abbrev pub hand_made : List Try
hand_made =
    -- sound
    try (second (medication_of 2394428 (("m", "1") ∷ []) ((("w", "Ramipril") ∷ ("s", "5 mg") ∷ []) ∷ []))) 0 1
    -- a dose "0", which reads as absent
    ∷ try (second (medication_of 0 (("a", "x") ∷ ("m", "0") ∷ []) [])) 13 2
    -- a trailing blank, which reading cuts
    ∷ try (second (medication_of 0 (("a", "x ") ∷ []) [])) 13 2
    -- two excluded fields
    ∷ try (second (medication_of 0 (("a", "x") ∷ ("m", "1") ∷ ("t", "z") ∷ []) [])) 13 2
    -- a package number with a wrong check digit
    ∷ try (second (medication_of 2394429 [] [])) 13 2
    -- an unknown kind
    ∷ try (second (row_of unknown [])) 13 2
    -- a heading without c and t
    ∷ try (second (row_of S [])) 13 2
    -- a medication without package number, name and substance
    ∷ try (second (medication_of 0 (("m", "1") ∷ []) [])) 13 2
    -- a strength without its substance
    ∷ try (second (medication_of 0 [] ((("s", "5 mg") ∷ []) ∷ []))) 13 2
    -- four substances
    ∷ try (second (medication_of 0 [] (replicate 4 (("w", "Ramipril") ∷ [])))) 13 2
    -- a note with a package number
    ∷ try (second (record { kind = X; pzn = 2394428; slots = bytes "x" ∷ []; ws = [] })) 13 2
    -- a value longer than its field
    ∷ try (second (medication_of 0 (("a", "x") ∷ ("fd", "12345678") ∷ []) [])) 13 2
    -- byte 130 in a value
    ∷ try (second (record { kind = X; pzn = 0; slots = (130 ∷ []) ∷ []; ws = [] })) 13 2
    -- a recipe without its t
    ∷ try (second (row_of R (("x", "x") ∷ []))) 13 2
    -- patch above 99
    ∷ try (plan_of (head_of 99 "de-DE" "19510704") []) 0 1
    ∷ try (plan_of (head_of 100 "de-DE" "19510704") []) 13 0
    -- l absent
    ∷ try (plan_of (head_of 0 "" "19510704") []) 13 0
    -- the head first, then the first bad row
    ∷ try (plan_of (head_of 0 "de-DE" "18750101") (row_of S [] ∷ [])) 13 0
    ∷ try (plan_of (head_of 0 "de-DE" "18750102") (row_of S [] ∷ row_of unknown [] ∷ [])) 13 1
    -- nine pages of one row each; a tenth row has no page
    ∷ try (plan_of good_head (replicate 9 long_note)) 0 9
    ∷ try (plan_of good_head (replicate 10 long_note)) 14 10
    -- a head that alone is too long
    ∷ try (plan_of long_head []) 14 0
    -- 257 rows
    ∷ try (plan_of good_head (replicate 257 (row_of X (("t", "x") ∷ [])))) 1 0
    ∷ []

-- the writer answers each as expected
pub hand_made_tried : every tried hand_made ≡ true
unfolding tried fresh cuttable place14 page sound_head sound_row good_element fields_of
hand_made_tried = refl
