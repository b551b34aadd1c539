-- Comments, strings and macros: texts, and what they expand to by the definition, or how they are refused, computed. The
-- first number is 0 before the bytes of an expanded text, 3 before the line and column of a BadDirective
-- and 4 before those of an Unsupported.
use Rattle.std.proofs.Common.{◌≡◌, [], ◌∷◌, refl}
use Rattle.abel_macros.proofs.Common.{longest_at, longest_word, known_radix, directive_of, further_directive, plain_directive, start}
use Rattle.abel_macros.proofs.Told.{outcome, told}

-- a"note"b
example-1 : told (outcome 200 (start (97 ∷ 34 ∷ 110 ∷ 111 ∷ 116 ∷ 101 ∷ 34 ∷ 98 ∷ []))) ≡ 0 ∷ 97 ∷ 32 ∷ 98 ∷ []
unfolding longest_at longest_word known_radix directive_of further_directive plain_directive
example-1 = refl

-- a"note
example-2 : told (outcome 200 (start (97 ∷ 34 ∷ 110 ∷ 111 ∷ 116 ∷ 101 ∷ []))) ≡ 0 ∷ 97 ∷ 32 ∷ []
unfolding longest_at longest_word known_radix directive_of further_directive plain_directive
example-2 = refl

-- a//b c\nd
example-3 : told (outcome 200 (start (97 ∷ 47 ∷ 47 ∷ 98 ∷ 32 ∷ 99 ∷ 10 ∷ 100 ∷ []))) ≡ 0 ∷ 97 ∷ 32 ∷ 10 ∷ 100 ∷ []
unfolding longest_at longest_word known_radix directive_of further_directive plain_directive
example-3 = refl

-- a"b\nc
example-4 : told (outcome 200 (start (97 ∷ 34 ∷ 98 ∷ 10 ∷ 99 ∷ []))) ≡ 0 ∷ 97 ∷ 32 ∷ 10 ∷ 99 ∷ []
unfolding longest_at longest_word known_radix directive_of further_directive plain_directive
example-4 = refl

-- 'a"b//c'
example-5 : told (outcome 200 (start (39 ∷ 97 ∷ 34 ∷ 98 ∷ 47 ∷ 47 ∷ 99 ∷ 39 ∷ []))) ≡ 0 ∷ 39 ∷ 97 ∷ 34 ∷ 98 ∷ 47 ∷ 47 ∷ 99 ∷ 39 ∷ []
unfolding longest_at longest_word known_radix directive_of further_directive plain_directive
example-5 = refl

-- 'it\\'s'"n"
example-6 : told (outcome 200 (start (39 ∷ 105 ∷ 116 ∷ 92 ∷ 39 ∷ 115 ∷ 39 ∷ 34 ∷ 110 ∷ 34 ∷ []))) ≡ 0 ∷ 39 ∷ 105 ∷ 116 ∷ 92 ∷ 39 ∷ 115 ∷ 39 ∷ 32 ∷ []
unfolding longest_at longest_word known_radix directive_of further_directive plain_directive
example-6 = refl

-- 'open "x
example-7 : told (outcome 200 (start (39 ∷ 111 ∷ 112 ∷ 101 ∷ 110 ∷ 32 ∷ 34 ∷ 120 ∷ []))) ≡ 0 ∷ 39 ∷ 111 ∷ 112 ∷ 101 ∷ 110 ∷ 32 ∷ 34 ∷ 120 ∷ []
unfolding longest_at longest_word known_radix directive_of further_directive plain_directive
example-7 = refl

-- a/b
example-8 : told (outcome 200 (start (97 ∷ 47 ∷ 98 ∷ []))) ≡ 0 ∷ 97 ∷ 47 ∷ 98 ∷ []
unfolding longest_at longest_word known_radix directive_of further_directive plain_directive
example-8 = refl

-- a"x""y"b
example-9 : told (outcome 200 (start (97 ∷ 34 ∷ 120 ∷ 34 ∷ 34 ∷ 121 ∷ 34 ∷ 98 ∷ []))) ≡ 0 ∷ 97 ∷ 32 ∷ 32 ∷ 98 ∷ []
unfolding longest_at longest_word known_radix directive_of further_directive plain_directive
example-9 = refl

-- "x"
example-10 : told (outcome 200 (start (34 ∷ 120 ∷ 34 ∷ []))) ≡ 0 ∷ 32 ∷ []
unfolding longest_at longest_word known_radix directive_of further_directive plain_directive
example-10 = refl

-- //
example-11 : told (outcome 200 (start (47 ∷ 47 ∷ []))) ≡ 0 ∷ 32 ∷ []
unfolding longest_at longest_word known_radix directive_of further_directive plain_directive
example-11 = refl

-- a//\r\nb
example-12 : told (outcome 200 (start (97 ∷ 47 ∷ 47 ∷ 13 ∷ 10 ∷ 98 ∷ []))) ≡ 0 ∷ 97 ∷ 32 ∷ 10 ∷ 98 ∷ []
unfolding longest_at longest_word known_radix directive_of further_directive plain_directive
example-12 = refl

-- m MACRO {x # y};m
example-13 : told (outcome 200 (start (109 ∷ 32 ∷ 77 ∷ 65 ∷ 67 ∷ 82 ∷ 79 ∷ 32 ∷ 123 ∷ 120 ∷ 32 ∷ 35 ∷ 32 ∷ 121 ∷ 125 ∷ 59 ∷ 109 ∷ []))) ≡ 0 ∷ 120 ∷ 32 ∷ 35 ∷ 32 ∷ 121 ∷ []
unfolding longest_at longest_word known_radix directive_of further_directive plain_directive
example-13 = refl

-- m MACRO {x}m
example-14 : told (outcome 200 (start (109 ∷ 32 ∷ 77 ∷ 65 ∷ 67 ∷ 82 ∷ 79 ∷ 32 ∷ 123 ∷ 120 ∷ 125 ∷ 109 ∷ []))) ≡ 0 ∷ 120 ∷ []
unfolding longest_at longest_word known_radix directive_of further_directive plain_directive
example-14 = refl

-- m macro {x};m m;
example-15 : told (outcome 200 (start (109 ∷ 32 ∷ 109 ∷ 97 ∷ 99 ∷ 114 ∷ 111 ∷ 32 ∷ 123 ∷ 120 ∷ 125 ∷ 59 ∷ 109 ∷ 32 ∷ 109 ∷ 59 ∷ []))) ≡ 0 ∷ 120 ∷ 32 ∷ 120 ∷ 59 ∷ []
unfolding longest_at longest_word known_radix directive_of further_directive plain_directive
example-15 = refl

-- m MACRO {x};m1
example-16 : told (outcome 200 (start (109 ∷ 32 ∷ 77 ∷ 65 ∷ 67 ∷ 82 ∷ 79 ∷ 32 ∷ 123 ∷ 120 ∷ 125 ∷ 59 ∷ 109 ∷ 49 ∷ []))) ≡ 0 ∷ 109 ∷ 49 ∷ []
unfolding longest_at longest_word known_radix directive_of further_directive plain_directive
example-16 = refl

-- m MACRO {x};~m
example-17 : told (outcome 200 (start (109 ∷ 32 ∷ 77 ∷ 65 ∷ 67 ∷ 82 ∷ 79 ∷ 32 ∷ 123 ∷ 120 ∷ 125 ∷ 59 ∷ 126 ∷ 109 ∷ []))) ≡ 0 ∷ 126 ∷ 109 ∷ []
unfolding longest_at longest_word known_radix directive_of further_directive plain_directive
example-17 = refl

-- m MACRO {a{b}c};m
example-18 : told (outcome 200 (start (109 ∷ 32 ∷ 77 ∷ 65 ∷ 67 ∷ 82 ∷ 79 ∷ 32 ∷ 123 ∷ 97 ∷ 123 ∷ 98 ∷ 125 ∷ 99 ∷ 125 ∷ 59 ∷ 109 ∷ []))) ≡ 0 ∷ 97 ∷ 123 ∷ 98 ∷ 125 ∷ 99 ∷ []
unfolding longest_at longest_word known_radix directive_of further_directive plain_directive
example-18 = refl

-- m MACRO {'}'};m
example-19 : told (outcome 200 (start (109 ∷ 32 ∷ 77 ∷ 65 ∷ 67 ∷ 82 ∷ 79 ∷ 32 ∷ 123 ∷ 39 ∷ 125 ∷ 39 ∷ 125 ∷ 59 ∷ 109 ∷ []))) ≡ 0 ∷ 39 ∷ 125 ∷ 39 ∷ []
unfolding longest_at longest_word known_radix directive_of further_directive plain_directive
example-19 = refl

-- m MACRO {"}"};m
example-20 : told (outcome 200 (start (109 ∷ 32 ∷ 77 ∷ 65 ∷ 67 ∷ 82 ∷ 79 ∷ 32 ∷ 123 ∷ 34 ∷ 125 ∷ 34 ∷ 125 ∷ 59 ∷ 109 ∷ []))) ≡ 0 ∷ 32 ∷ []
unfolding longest_at longest_word known_radix directive_of further_directive plain_directive
example-20 = refl

-- m MACRO {x};m MACRO {y};m
example-21 : told (outcome 200 (start (109 ∷ 32 ∷ 77 ∷ 65 ∷ 67 ∷ 82 ∷ 79 ∷ 32 ∷ 123 ∷ 120 ∷ 125 ∷ 59 ∷ 109 ∷ 32 ∷ 77 ∷ 65 ∷ 67 ∷ 82 ∷ 79 ∷ 32 ∷ 123 ∷ 121 ∷ 125 ∷ 59 ∷ 109 ∷ []))) ≡ 0 ∷ 121 ∷ []
unfolding longest_at longest_word known_radix directive_of further_directive plain_directive
example-21 = refl

-- m MACRO\n{x\n}\n;m
example-22 : told (outcome 200 (start (109 ∷ 32 ∷ 77 ∷ 65 ∷ 67 ∷ 82 ∷ 79 ∷ 10 ∷ 123 ∷ 120 ∷ 10 ∷ 125 ∷ 10 ∷ 59 ∷ 109 ∷ []))) ≡ 0 ∷ 10 ∷ 10 ∷ 10 ∷ 120 ∷ 10 ∷ []
unfolding longest_at longest_word known_radix directive_of further_directive plain_directive
example-22 = refl

-- if MACRO {x};IF if
example-23 : told (outcome 200 (start (105 ∷ 102 ∷ 32 ∷ 77 ∷ 65 ∷ 67 ∷ 82 ∷ 79 ∷ 32 ∷ 123 ∷ 120 ∷ 125 ∷ 59 ∷ 73 ∷ 70 ∷ 32 ∷ 105 ∷ 102 ∷ []))) ≡ 0 ∷ 73 ∷ 70 ∷ 32 ∷ 120 ∷ []
unfolding longest_at longest_word known_radix directive_of further_directive plain_directive
example-23 = refl

-- MACRO {x}
example-24 : told (outcome 200 (start (77 ∷ 65 ∷ 67 ∷ 82 ∷ 79 ∷ 32 ∷ 123 ∷ 120 ∷ 125 ∷ []))) ≡ 0 ∷ 77 ∷ 65 ∷ 67 ∷ 82 ∷ 79 ∷ 32 ∷ 123 ∷ 120 ∷ 125 ∷ []
unfolding longest_at longest_word known_radix directive_of further_directive plain_directive
example-24 = refl

-- MACRO MACRO {x};MACRO
example-25 : told (outcome 200 (start (77 ∷ 65 ∷ 67 ∷ 82 ∷ 79 ∷ 32 ∷ 77 ∷ 65 ∷ 67 ∷ 82 ∷ 79 ∷ 32 ∷ 123 ∷ 120 ∷ 125 ∷ 59 ∷ 77 ∷ 65 ∷ 67 ∷ 82 ∷ 79 ∷ []))) ≡ 0 ∷ 120 ∷ []
unfolding longest_at longest_word known_radix directive_of further_directive plain_directive
example-25 = refl

-- m "c" MACRO "d" {x} "e" ;m
example-26 : told (outcome 200 (start (109 ∷ 32 ∷ 34 ∷ 99 ∷ 34 ∷ 32 ∷ 77 ∷ 65 ∷ 67 ∷ 82 ∷ 79 ∷ 32 ∷ 34 ∷ 100 ∷ 34 ∷ 32 ∷ 123 ∷ 120 ∷ 125 ∷ 32 ∷ 34 ∷ 101 ∷ 34 ∷ 32 ∷ 59 ∷ 109 ∷ []))) ≡ 0 ∷ 120 ∷ []
unfolding longest_at longest_word known_radix directive_of further_directive plain_directive
example-26 = refl

-- m MACRO {n MACRO {y};};m n
example-27 : told (outcome 200 (start (109 ∷ 32 ∷ 77 ∷ 65 ∷ 67 ∷ 82 ∷ 79 ∷ 32 ∷ 123 ∷ 110 ∷ 32 ∷ 77 ∷ 65 ∷ 67 ∷ 82 ∷ 79 ∷ 32 ∷ 123 ∷ 121 ∷ 125 ∷ 59 ∷ 125 ∷ 59 ∷ 109 ∷ 32 ∷ 110 ∷ []))) ≡ 0 ∷ 32 ∷ 121 ∷ []
unfolding longest_at longest_word known_radix directive_of further_directive plain_directive
example-27 = refl

-- m MACRO {n};n MACRO {z};m
example-28 : told (outcome 200 (start (109 ∷ 32 ∷ 77 ∷ 65 ∷ 67 ∷ 82 ∷ 79 ∷ 32 ∷ 123 ∷ 110 ∷ 125 ∷ 59 ∷ 110 ∷ 32 ∷ 77 ∷ 65 ∷ 67 ∷ 82 ∷ 79 ∷ 32 ∷ 123 ∷ 122 ∷ 125 ∷ 59 ∷ 109 ∷ []))) ≡ 0 ∷ 122 ∷ []
unfolding longest_at longest_word known_radix directive_of further_directive plain_directive
example-28 = refl

-- m MACRO {@IF 1 {k}};m
example-29 : told (outcome 200 (start (109 ∷ 32 ∷ 77 ∷ 65 ∷ 67 ∷ 82 ∷ 79 ∷ 32 ∷ 123 ∷ 64 ∷ 73 ∷ 70 ∷ 32 ∷ 49 ∷ 32 ∷ 123 ∷ 107 ∷ 125 ∷ 125 ∷ 59 ∷ 109 ∷ []))) ≡ 0 ∷ 107 ∷ []
unfolding longest_at longest_word known_radix directive_of further_directive plain_directive
example-29 = refl

-- m MACRO {x};'m' .m m.m a.m
example-30 : told (outcome 200 (start (109 ∷ 32 ∷ 77 ∷ 65 ∷ 67 ∷ 82 ∷ 79 ∷ 32 ∷ 123 ∷ 120 ∷ 125 ∷ 59 ∷ 39 ∷ 109 ∷ 39 ∷ 32 ∷ 46 ∷ 109 ∷ 32 ∷ 109 ∷ 46 ∷ 109 ∷ 32 ∷ 97 ∷ 46 ∷ 109 ∷ []))) ≡ 0 ∷ 39 ∷ 109 ∷ 39 ∷ 32 ∷ 46 ∷ 109 ∷ 32 ∷ 120 ∷ 46 ∷ 109 ∷ 32 ∷ 97 ∷ 46 ∷ 109 ∷ []
unfolding longest_at longest_word known_radix directive_of further_directive plain_directive
example-30 = refl

-- m MACRO {x};9m
example-31 : told (outcome 200 (start (109 ∷ 32 ∷ 77 ∷ 65 ∷ 67 ∷ 82 ∷ 79 ∷ 32 ∷ 123 ∷ 120 ∷ 125 ∷ 59 ∷ 57 ∷ 109 ∷ []))) ≡ 0 ∷ 57 ∷ 109 ∷ []
unfolding longest_at longest_word known_radix directive_of further_directive plain_directive
example-31 = refl

-- m MACRO {x};..m
example-32 : told (outcome 200 (start (109 ∷ 32 ∷ 77 ∷ 65 ∷ 67 ∷ 82 ∷ 79 ∷ 32 ∷ 123 ∷ 120 ∷ 125 ∷ 59 ∷ 46 ∷ 46 ∷ 109 ∷ []))) ≡ 0 ∷ 46 ∷ 46 ∷ 120 ∷ []
unfolding longest_at longest_word known_radix directive_of further_directive plain_directive
example-32 = refl

-- m MACRO {x};...m
example-33 : told (outcome 200 (start (109 ∷ 32 ∷ 77 ∷ 65 ∷ 67 ∷ 82 ∷ 79 ∷ 32 ∷ 123 ∷ 120 ∷ 125 ∷ 59 ∷ 46 ∷ 46 ∷ 46 ∷ 109 ∷ []))) ≡ 0 ∷ 46 ∷ 46 ∷ 46 ∷ 109 ∷ []
unfolding longest_at longest_word known_radix directive_of further_directive plain_directive
example-33 = refl

-- p MACRO (x) {Y?x};p(1)9
example-34 : told (outcome 200 (start (112 ∷ 32 ∷ 77 ∷ 65 ∷ 67 ∷ 82 ∷ 79 ∷ 32 ∷ 40 ∷ 120 ∷ 41 ∷ 32 ∷ 123 ∷ 89 ∷ 63 ∷ 120 ∷ 125 ∷ 59 ∷ 112 ∷ 40 ∷ 49 ∷ 41 ∷ 57 ∷ []))) ≡ 0 ∷ 89 ∷ 49 ∷ 57 ∷ []
unfolding longest_at longest_word known_radix directive_of further_directive plain_directive
example-34 = refl

-- p MACRO (x) {?x};p(9)p(8)
example-35 : told (outcome 200 (start (112 ∷ 32 ∷ 77 ∷ 65 ∷ 67 ∷ 82 ∷ 79 ∷ 32 ∷ 40 ∷ 120 ∷ 41 ∷ 32 ∷ 123 ∷ 63 ∷ 120 ∷ 125 ∷ 59 ∷ 112 ∷ 40 ∷ 57 ∷ 41 ∷ 112 ∷ 40 ∷ 56 ∷ 41 ∷ []))) ≡ 0 ∷ 57 ∷ 112 ∷ 40 ∷ 56 ∷ 41 ∷ []
unfolding longest_at longest_word known_radix directive_of further_directive plain_directive
example-35 = refl

-- p MACRO (a,b) {?b?a};p(1,2)
example-36 : told (outcome 200 (start (112 ∷ 32 ∷ 77 ∷ 65 ∷ 67 ∷ 82 ∷ 79 ∷ 32 ∷ 40 ∷ 97 ∷ 44 ∷ 98 ∷ 41 ∷ 32 ∷ 123 ∷ 63 ∷ 98 ∷ 63 ∷ 97 ∷ 125 ∷ 59 ∷ 112 ∷ 40 ∷ 49 ∷ 44 ∷ 50 ∷ 41 ∷ []))) ≡ 0 ∷ 50 ∷ 49 ∷ []
unfolding longest_at longest_word known_radix directive_of further_directive plain_directive
example-36 = refl

-- p MACRO (x) {?x};p( a b )
example-37 : told (outcome 200 (start (112 ∷ 32 ∷ 77 ∷ 65 ∷ 67 ∷ 82 ∷ 79 ∷ 32 ∷ 40 ∷ 120 ∷ 41 ∷ 32 ∷ 123 ∷ 63 ∷ 120 ∷ 125 ∷ 59 ∷ 112 ∷ 40 ∷ 32 ∷ 97 ∷ 32 ∷ 98 ∷ 32 ∷ 41 ∷ []))) ≡ 0 ∷ 97 ∷ 32 ∷ 98 ∷ []
unfolding longest_at longest_word known_radix directive_of further_directive plain_directive
example-37 = refl

-- p MACRO (x) {[?x]};p((a,b))
example-38 : told (outcome 200 (start (112 ∷ 32 ∷ 77 ∷ 65 ∷ 67 ∷ 82 ∷ 79 ∷ 32 ∷ 40 ∷ 120 ∷ 41 ∷ 32 ∷ 123 ∷ 91 ∷ 63 ∷ 120 ∷ 93 ∷ 125 ∷ 59 ∷ 112 ∷ 40 ∷ 40 ∷ 97 ∷ 44 ∷ 98 ∷ 41 ∷ 41 ∷ []))) ≡ 0 ∷ 91 ∷ 40 ∷ 97 ∷ 44 ∷ 98 ∷ 41 ∷ 93 ∷ []
unfolding longest_at longest_word known_radix directive_of further_directive plain_directive
example-38 = refl

-- p MACRO (x) {?x!};p([a,b])
example-39 : told (outcome 200 (start (112 ∷ 32 ∷ 77 ∷ 65 ∷ 67 ∷ 82 ∷ 79 ∷ 32 ∷ 40 ∷ 120 ∷ 41 ∷ 32 ∷ 123 ∷ 63 ∷ 120 ∷ 33 ∷ 125 ∷ 59 ∷ 112 ∷ 40 ∷ 91 ∷ 97 ∷ 44 ∷ 98 ∷ 93 ∷ 41 ∷ []))) ≡ 0 ∷ 91 ∷ 97 ∷ 44 ∷ 98 ∷ 93 ∷ 33 ∷ []
unfolding longest_at longest_word known_radix directive_of further_directive plain_directive
example-39 = refl

-- p MACRO (x) {?x!};p(',')
example-40 : told (outcome 200 (start (112 ∷ 32 ∷ 77 ∷ 65 ∷ 67 ∷ 82 ∷ 79 ∷ 32 ∷ 40 ∷ 120 ∷ 41 ∷ 32 ∷ 123 ∷ 63 ∷ 120 ∷ 33 ∷ 125 ∷ 59 ∷ 112 ∷ 40 ∷ 39 ∷ 44 ∷ 39 ∷ 41 ∷ []))) ≡ 0 ∷ 39 ∷ 44 ∷ 39 ∷ 33 ∷ []
unfolding longest_at longest_word known_radix directive_of further_directive plain_directive
example-40 = refl

-- p MACRO (x) {<?x>};p()
example-41 : told (outcome 200 (start (112 ∷ 32 ∷ 77 ∷ 65 ∷ 67 ∷ 82 ∷ 79 ∷ 32 ∷ 40 ∷ 120 ∷ 41 ∷ 32 ∷ 123 ∷ 60 ∷ 63 ∷ 120 ∷ 62 ∷ 125 ∷ 59 ∷ 112 ∷ 40 ∷ 41 ∷ []))) ≡ 0 ∷ 60 ∷ 62 ∷ []
unfolding longest_at longest_word known_radix directive_of further_directive plain_directive
example-41 = refl

-- p MACRO (x) {?y?x};p(1)
example-42 : told (outcome 200 (start (112 ∷ 32 ∷ 77 ∷ 65 ∷ 67 ∷ 82 ∷ 79 ∷ 32 ∷ 40 ∷ 120 ∷ 41 ∷ 32 ∷ 123 ∷ 63 ∷ 121 ∷ 63 ∷ 120 ∷ 125 ∷ 59 ∷ 112 ∷ 40 ∷ 49 ∷ 41 ∷ []))) ≡ 0 ∷ 63 ∷ 121 ∷ 49 ∷ []
unfolding longest_at longest_word known_radix directive_of further_directive plain_directive
example-42 = refl

-- p MACRO (x) {?xx};p(1)
example-43 : told (outcome 200 (start (112 ∷ 32 ∷ 77 ∷ 65 ∷ 67 ∷ 82 ∷ 79 ∷ 32 ∷ 40 ∷ 120 ∷ 41 ∷ 32 ∷ 123 ∷ 63 ∷ 120 ∷ 120 ∷ 125 ∷ 59 ∷ 112 ∷ 40 ∷ 49 ∷ 41 ∷ []))) ≡ 0 ∷ 63 ∷ 120 ∷ 120 ∷ []
unfolding longest_at longest_word known_radix directive_of further_directive plain_directive
example-43 = refl

-- p MACRO (x) {'?x'};p(1)
example-44 : told (outcome 200 (start (112 ∷ 32 ∷ 77 ∷ 65 ∷ 67 ∷ 82 ∷ 79 ∷ 32 ∷ 40 ∷ 120 ∷ 41 ∷ 32 ∷ 123 ∷ 39 ∷ 63 ∷ 120 ∷ 39 ∷ 125 ∷ 59 ∷ 112 ∷ 40 ∷ 49 ∷ 41 ∷ []))) ≡ 0 ∷ 39 ∷ 49 ∷ 39 ∷ []
unfolding longest_at longest_word known_radix directive_of further_directive plain_directive
example-44 = refl

-- p MACRO (x,x) {?x};p(1,2)
example-45 : told (outcome 200 (start (112 ∷ 32 ∷ 77 ∷ 65 ∷ 67 ∷ 82 ∷ 79 ∷ 32 ∷ 40 ∷ 120 ∷ 44 ∷ 120 ∷ 41 ∷ 32 ∷ 123 ∷ 63 ∷ 120 ∷ 125 ∷ 59 ∷ 112 ∷ 40 ∷ 49 ∷ 44 ∷ 50 ∷ 41 ∷ []))) ≡ 0 ∷ 49 ∷ []
unfolding longest_at longest_word known_radix directive_of further_directive plain_directive
example-45 = refl

-- p MACRO (x) {?x};q MACRO {z};p(q)
example-46 : told (outcome 200 (start (112 ∷ 32 ∷ 77 ∷ 65 ∷ 67 ∷ 82 ∷ 79 ∷ 32 ∷ 40 ∷ 120 ∷ 41 ∷ 32 ∷ 123 ∷ 63 ∷ 120 ∷ 125 ∷ 59 ∷ 113 ∷ 32 ∷ 77 ∷ 65 ∷ 67 ∷ 82 ∷ 79 ∷ 32 ∷ 123 ∷ 122 ∷ 125 ∷ 59 ∷ 112 ∷ 40 ∷ 113 ∷ 41 ∷ []))) ≡ 0 ∷ 122 ∷ []
unfolding longest_at longest_word known_radix directive_of further_directive plain_directive
example-46 = refl

-- p MACRO (x) {?x?x};p(a"n")
example-47 : told (outcome 200 (start (112 ∷ 32 ∷ 77 ∷ 65 ∷ 67 ∷ 82 ∷ 79 ∷ 32 ∷ 40 ∷ 120 ∷ 41 ∷ 32 ∷ 123 ∷ 63 ∷ 120 ∷ 63 ∷ 120 ∷ 125 ∷ 59 ∷ 112 ∷ 40 ∷ 97 ∷ 34 ∷ 110 ∷ 34 ∷ 41 ∷ []))) ≡ 0 ∷ 97 ∷ 32 ∷ 97 ∷ 32 ∷ []
unfolding longest_at longest_word known_radix directive_of further_directive plain_directive
example-47 = refl

-- p MACRO (x) {?x};p(?x)
example-48 : told (outcome 200 (start (112 ∷ 32 ∷ 77 ∷ 65 ∷ 67 ∷ 82 ∷ 79 ∷ 32 ∷ 40 ∷ 120 ∷ 41 ∷ 32 ∷ 123 ∷ 63 ∷ 120 ∷ 125 ∷ 59 ∷ 112 ∷ 40 ∷ 63 ∷ 120 ∷ 41 ∷ []))) ≡ 0 ∷ 63 ∷ 120 ∷ []
unfolding longest_at longest_word known_radix directive_of further_directive plain_directive
example-48 = refl

-- p MACRO (m1) {?m1 };p(1)p "c" (2)
example-49 : told (outcome 200 (start (112 ∷ 32 ∷ 77 ∷ 65 ∷ 67 ∷ 82 ∷ 79 ∷ 32 ∷ 40 ∷ 109 ∷ 49 ∷ 41 ∷ 32 ∷ 123 ∷ 63 ∷ 109 ∷ 49 ∷ 32 ∷ 125 ∷ 59 ∷ 112 ∷ 40 ∷ 49 ∷ 41 ∷ 112 ∷ 32 ∷ 34 ∷ 99 ∷ 34 ∷ 32 ∷ 40 ∷ 50 ∷ 41 ∷ []))) ≡ 0 ∷ 49 ∷ 32 ∷ 50 ∷ 32 ∷ []
unfolding longest_at longest_word known_radix directive_of further_directive plain_directive
example-49 = refl

-- p MACRO (x) {?x};p((,))
example-50 : told (outcome 200 (start (112 ∷ 32 ∷ 77 ∷ 65 ∷ 67 ∷ 82 ∷ 79 ∷ 32 ∷ 40 ∷ 120 ∷ 41 ∷ 32 ∷ 123 ∷ 63 ∷ 120 ∷ 125 ∷ 59 ∷ 112 ∷ 40 ∷ 40 ∷ 44 ∷ 41 ∷ 41 ∷ []))) ≡ 0 ∷ 40 ∷ 44 ∷ 41 ∷ []
unfolding longest_at longest_word known_radix directive_of further_directive plain_directive
example-50 = refl

-- inv MACRO (n) {Y?n = !A?n;};@IRP i (0,1) {inv(?i)}
example-51 : told (outcome 200 (start (105 ∷ 110 ∷ 118 ∷ 32 ∷ 77 ∷ 65 ∷ 67 ∷ 82 ∷ 79 ∷ 32 ∷ 40 ∷ 110 ∷ 41 ∷ 32 ∷ 123 ∷ 89 ∷ 63 ∷ 110 ∷ 32 ∷ 61 ∷ 32 ∷ 33 ∷ 65 ∷ 63 ∷ 110 ∷ 59 ∷ 125 ∷ 59 ∷ 64 ∷ 73 ∷ 82 ∷ 80 ∷ 32 ∷ 105 ∷ 32 ∷ 40 ∷ 48 ∷ 44 ∷ 49 ∷ 41 ∷ 32 ∷ 123 ∷ 105 ∷ 110 ∷ 118 ∷ 40 ∷ 63 ∷ 105 ∷ 41 ∷ 125 ∷ []))) ≡ 0 ∷ 89 ∷ 48 ∷ 32 ∷ 61 ∷ 32 ∷ 33 ∷ 65 ∷ 48 ∷ 59 ∷ 89 ∷ 49 ∷ 32 ∷ 61 ∷ 32 ∷ 33 ∷ 65 ∷ 49 ∷ 59 ∷ []
unfolding longest_at longest_word known_radix directive_of further_directive plain_directive
example-51 = refl

-- p MACRO () {x}
example-52 : told (outcome 200 (start (112 ∷ 32 ∷ 77 ∷ 65 ∷ 67 ∷ 82 ∷ 79 ∷ 32 ∷ 40 ∷ 41 ∷ 32 ∷ 123 ∷ 120 ∷ 125 ∷ []))) ≡ 3 ∷ 1 ∷ 1 ∷ []
unfolding longest_at longest_word known_radix directive_of further_directive plain_directive
example-52 = refl

-- p MACRO (x) {y};p
example-53 : told (outcome 200 (start (112 ∷ 32 ∷ 77 ∷ 65 ∷ 67 ∷ 82 ∷ 79 ∷ 32 ∷ 40 ∷ 120 ∷ 41 ∷ 32 ∷ 123 ∷ 121 ∷ 125 ∷ 59 ∷ 112 ∷ []))) ≡ 3 ∷ 1 ∷ 1 ∷ []
unfolding longest_at longest_word known_radix directive_of further_directive plain_directive
example-53 = refl

-- p MACRO (x) {y};p(1,2)
example-54 : told (outcome 200 (start (112 ∷ 32 ∷ 77 ∷ 65 ∷ 67 ∷ 82 ∷ 79 ∷ 32 ∷ 40 ∷ 120 ∷ 41 ∷ 32 ∷ 123 ∷ 121 ∷ 125 ∷ 59 ∷ 112 ∷ 40 ∷ 49 ∷ 44 ∷ 50 ∷ 41 ∷ []))) ≡ 3 ∷ 1 ∷ 1 ∷ []
unfolding longest_at longest_word known_radix directive_of further_directive plain_directive
example-54 = refl

-- p MACRO (x) {y};p(1
example-55 : told (outcome 200 (start (112 ∷ 32 ∷ 77 ∷ 65 ∷ 67 ∷ 82 ∷ 79 ∷ 32 ∷ 40 ∷ 120 ∷ 41 ∷ 32 ∷ 123 ∷ 121 ∷ 125 ∷ 59 ∷ 112 ∷ 40 ∷ 49 ∷ []))) ≡ 3 ∷ 1 ∷ 1 ∷ []
unfolding longest_at longest_word known_radix directive_of further_directive plain_directive
example-55 = refl

-- m MACRO {x
example-56 : told (outcome 200 (start (109 ∷ 32 ∷ 77 ∷ 65 ∷ 67 ∷ 82 ∷ 79 ∷ 32 ∷ 123 ∷ 120 ∷ []))) ≡ 3 ∷ 1 ∷ 1 ∷ []
unfolding longest_at longest_word known_radix directive_of further_directive plain_directive
example-56 = refl

-- m MACRO x
example-57 : told (outcome 200 (start (109 ∷ 32 ∷ 77 ∷ 65 ∷ 67 ∷ 82 ∷ 79 ∷ 32 ∷ 120 ∷ []))) ≡ 3 ∷ 1 ∷ 1 ∷ []
unfolding longest_at longest_word known_radix directive_of further_directive plain_directive
example-57 = refl

-- a;\nm MACRO
example-58 : told (outcome 200 (start (97 ∷ 59 ∷ 10 ∷ 109 ∷ 32 ∷ 77 ∷ 65 ∷ 67 ∷ 82 ∷ 79 ∷ []))) ≡ 3 ∷ 2 ∷ 1 ∷ []
unfolding longest_at longest_word known_radix directive_of further_directive plain_directive
example-58 = refl

-- p MACRO (x y) {}
example-59 : told (outcome 200 (start (112 ∷ 32 ∷ 77 ∷ 65 ∷ 67 ∷ 82 ∷ 79 ∷ 32 ∷ 40 ∷ 120 ∷ 32 ∷ 121 ∷ 41 ∷ 32 ∷ 123 ∷ 125 ∷ []))) ≡ 3 ∷ 1 ∷ 1 ∷ []
unfolding longest_at longest_word known_radix directive_of further_directive plain_directive
example-59 = refl

-- p MACRO (x,) {}
example-60 : told (outcome 200 (start (112 ∷ 32 ∷ 77 ∷ 65 ∷ 67 ∷ 82 ∷ 79 ∷ 32 ∷ 40 ∷ 120 ∷ 44 ∷ 41 ∷ 32 ∷ 123 ∷ 125 ∷ []))) ≡ 3 ∷ 1 ∷ 1 ∷ []
unfolding longest_at longest_word known_radix directive_of further_directive plain_directive
example-60 = refl

-- p MACRO (1) {}
example-61 : told (outcome 200 (start (112 ∷ 32 ∷ 77 ∷ 65 ∷ 67 ∷ 82 ∷ 79 ∷ 32 ∷ 40 ∷ 49 ∷ 41 ∷ 32 ∷ 123 ∷ 125 ∷ []))) ≡ 3 ∷ 1 ∷ 1 ∷ []
unfolding longest_at longest_word known_radix directive_of further_directive plain_directive
example-61 = refl
