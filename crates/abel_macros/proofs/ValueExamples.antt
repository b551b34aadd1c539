-- @CONST, @EXPR and @RADIX: texts, and what they expand to by the definition, or how they are refused, computed. The
-- first number is 0 before the bytes of an expanded text, 3 before the line and column of a BadDirective
-- and 4 before those of an Unsupported.
use Rattle.std.proofs.Common.{◌≡◌, [], ◌∷◌, refl}
use Rattle.abel_macros.proofs.Common.{longest_at, longest_word, known_radix, directive_of, further_directive, plain_directive, start}
use Rattle.abel_macros.proofs.Told.{outcome, told}

-- @CONST n = 2 + 3;@EXPR n;
example-62 : told (outcome 200 (start (64 ∷ 67 ∷ 79 ∷ 78 ∷ 83 ∷ 84 ∷ 32 ∷ 110 ∷ 32 ∷ 61 ∷ 32 ∷ 50 ∷ 32 ∷ 43 ∷ 32 ∷ 51 ∷ 59 ∷ 64 ∷ 69 ∷ 88 ∷ 80 ∷ 82 ∷ 32 ∷ 110 ∷ 59 ∷ []))) ≡ 0 ∷ 53 ∷ []
unfolding longest_at longest_word known_radix directive_of further_directive plain_directive
example-62 = refl

-- @CONST n=1;\n@CONST n=n+1;@EXPR n;
example-63 : told (outcome 200 (start (64 ∷ 67 ∷ 79 ∷ 78 ∷ 83 ∷ 84 ∷ 32 ∷ 110 ∷ 61 ∷ 49 ∷ 59 ∷ 10 ∷ 64 ∷ 67 ∷ 79 ∷ 78 ∷ 83 ∷ 84 ∷ 32 ∷ 110 ∷ 61 ∷ 110 ∷ 43 ∷ 49 ∷ 59 ∷ 64 ∷ 69 ∷ 88 ∷ 80 ∷ 82 ∷ 32 ∷ 110 ∷ 59 ∷ []))) ≡ 0 ∷ 10 ∷ 50 ∷ []
unfolding longest_at longest_word known_radix directive_of further_directive plain_directive
example-63 = refl

-- @EXPR {q} 2+3;
example-64 : told (outcome 200 (start (64 ∷ 69 ∷ 88 ∷ 80 ∷ 82 ∷ 32 ∷ 123 ∷ 113 ∷ 125 ∷ 32 ∷ 50 ∷ 43 ∷ 51 ∷ 59 ∷ []))) ≡ 0 ∷ 113 ∷ 53 ∷ []
unfolding longest_at longest_word known_radix directive_of further_directive plain_directive
example-64 = refl

-- @EXPR {q} 2+3;1
example-65 : told (outcome 200 (start (64 ∷ 69 ∷ 88 ∷ 80 ∷ 82 ∷ 32 ∷ 123 ∷ 113 ∷ 125 ∷ 32 ∷ 50 ∷ 43 ∷ 51 ∷ 59 ∷ 49 ∷ []))) ≡ 0 ∷ 113 ∷ 53 ∷ 49 ∷ []
unfolding longest_at longest_word known_radix directive_of further_directive plain_directive
example-65 = refl

-- @EXPR 7/2;
example-66 : told (outcome 200 (start (64 ∷ 69 ∷ 88 ∷ 80 ∷ 82 ∷ 32 ∷ 55 ∷ 47 ∷ 50 ∷ 59 ∷ []))) ≡ 0 ∷ 51 ∷ []
unfolding longest_at longest_word known_radix directive_of further_directive plain_directive
example-66 = refl

-- @EXPR 7%2;
example-67 : told (outcome 200 (start (64 ∷ 69 ∷ 88 ∷ 80 ∷ 82 ∷ 32 ∷ 55 ∷ 37 ∷ 50 ∷ 59 ∷ []))) ≡ 0 ∷ 49 ∷ []
unfolding longest_at longest_word known_radix directive_of further_directive plain_directive
example-67 = refl

-- @EXPR -1;
example-68 : told (outcome 200 (start (64 ∷ 69 ∷ 88 ∷ 80 ∷ 82 ∷ 32 ∷ 45 ∷ 49 ∷ 59 ∷ []))) ≡ 0 ∷ 52 ∷ 50 ∷ 57 ∷ 52 ∷ 57 ∷ 54 ∷ 55 ∷ 50 ∷ 57 ∷ 53 ∷ []
unfolding longest_at longest_word known_radix directive_of further_directive plain_directive
example-68 = refl

-- @EXPR !0;
example-69 : told (outcome 200 (start (64 ∷ 69 ∷ 88 ∷ 80 ∷ 82 ∷ 32 ∷ 33 ∷ 48 ∷ 59 ∷ []))) ≡ 0 ∷ 52 ∷ 50 ∷ 57 ∷ 52 ∷ 57 ∷ 54 ∷ 55 ∷ 50 ∷ 57 ∷ 53 ∷ []
unfolding longest_at longest_word known_radix directive_of further_directive plain_directive
example-69 = refl

-- @EXPR 1<<31;
example-70 : told (outcome 200 (start (64 ∷ 69 ∷ 88 ∷ 80 ∷ 82 ∷ 32 ∷ 49 ∷ 60 ∷ 60 ∷ 51 ∷ 49 ∷ 59 ∷ []))) ≡ 0 ∷ 50 ∷ 49 ∷ 52 ∷ 55 ∷ 52 ∷ 56 ∷ 51 ∷ 54 ∷ 52 ∷ 56 ∷ []
unfolding longest_at longest_word known_radix directive_of further_directive plain_directive
example-70 = refl

-- @EXPR 1<<32;
example-71 : told (outcome 200 (start (64 ∷ 69 ∷ 88 ∷ 80 ∷ 82 ∷ 32 ∷ 49 ∷ 60 ∷ 60 ∷ 51 ∷ 50 ∷ 59 ∷ []))) ≡ 0 ∷ 48 ∷ []
unfolding longest_at longest_word known_radix directive_of further_directive plain_directive
example-71 = refl

-- @EXPR 8>>3;
example-72 : told (outcome 200 (start (64 ∷ 69 ∷ 88 ∷ 80 ∷ 82 ∷ 32 ∷ 56 ∷ 62 ∷ 62 ∷ 51 ∷ 59 ∷ []))) ≡ 0 ∷ 49 ∷ []
unfolding longest_at longest_word known_radix directive_of further_directive plain_directive
example-72 = refl

-- @EXPR 2*3+4;
example-73 : told (outcome 200 (start (64 ∷ 69 ∷ 88 ∷ 80 ∷ 82 ∷ 32 ∷ 50 ∷ 42 ∷ 51 ∷ 43 ∷ 52 ∷ 59 ∷ []))) ≡ 0 ∷ 49 ∷ 48 ∷ []
unfolding longest_at longest_word known_radix directive_of further_directive plain_directive
example-73 = refl

-- @EXPR 2+3*4;
example-74 : told (outcome 200 (start (64 ∷ 69 ∷ 88 ∷ 80 ∷ 82 ∷ 32 ∷ 50 ∷ 43 ∷ 51 ∷ 42 ∷ 52 ∷ 59 ∷ []))) ≡ 0 ∷ 49 ∷ 52 ∷ []
unfolding longest_at longest_word known_radix directive_of further_directive plain_directive
example-74 = refl

-- @EXPR (2+3)*4;
example-75 : told (outcome 200 (start (64 ∷ 69 ∷ 88 ∷ 80 ∷ 82 ∷ 32 ∷ 40 ∷ 50 ∷ 43 ∷ 51 ∷ 41 ∷ 42 ∷ 52 ∷ 59 ∷ []))) ≡ 0 ∷ 50 ∷ 48 ∷ []
unfolding longest_at longest_word known_radix directive_of further_directive plain_directive
example-75 = refl

-- @EXPR 6&3;
example-76 : told (outcome 200 (start (64 ∷ 69 ∷ 88 ∷ 80 ∷ 82 ∷ 32 ∷ 54 ∷ 38 ∷ 51 ∷ 59 ∷ []))) ≡ 0 ∷ 50 ∷ []
unfolding longest_at longest_word known_radix directive_of further_directive plain_directive
example-76 = refl

-- @EXPR 6#1;
example-77 : told (outcome 200 (start (64 ∷ 69 ∷ 88 ∷ 80 ∷ 82 ∷ 32 ∷ 54 ∷ 35 ∷ 49 ∷ 59 ∷ []))) ≡ 0 ∷ 55 ∷ []
unfolding longest_at longest_word known_radix directive_of further_directive plain_directive
example-77 = refl

-- @EXPR 6$3;
example-78 : told (outcome 200 (start (64 ∷ 69 ∷ 88 ∷ 80 ∷ 82 ∷ 32 ∷ 54 ∷ 36 ∷ 51 ∷ 59 ∷ []))) ≡ 0 ∷ 53 ∷ []
unfolding longest_at longest_word known_radix directive_of further_directive plain_directive
example-78 = refl

-- @EXPR 6!$3;
example-79 : told (outcome 200 (start (64 ∷ 69 ∷ 88 ∷ 80 ∷ 82 ∷ 32 ∷ 54 ∷ 33 ∷ 36 ∷ 51 ∷ 59 ∷ []))) ≡ 0 ∷ 52 ∷ 50 ∷ 57 ∷ 52 ∷ 57 ∷ 54 ∷ 55 ∷ 50 ∷ 57 ∷ 48 ∷ []
unfolding longest_at longest_word known_radix directive_of further_directive plain_directive
example-79 = refl

-- @EXPR 1==1;
example-80 : told (outcome 200 (start (64 ∷ 69 ∷ 88 ∷ 80 ∷ 82 ∷ 32 ∷ 49 ∷ 61 ∷ 61 ∷ 49 ∷ 59 ∷ []))) ≡ 0 ∷ 49 ∷ []
unfolding longest_at longest_word known_radix directive_of further_directive plain_directive
example-80 = refl

-- @EXPR 1!=1;
example-81 : told (outcome 200 (start (64 ∷ 69 ∷ 88 ∷ 80 ∷ 82 ∷ 32 ∷ 49 ∷ 33 ∷ 61 ∷ 49 ∷ 59 ∷ []))) ≡ 0 ∷ 48 ∷ []
unfolding longest_at longest_word known_radix directive_of further_directive plain_directive
example-81 = refl

-- @EXPR 3<2;
example-82 : told (outcome 200 (start (64 ∷ 69 ∷ 88 ∷ 80 ∷ 82 ∷ 32 ∷ 51 ∷ 60 ∷ 50 ∷ 59 ∷ []))) ≡ 0 ∷ 48 ∷ []
unfolding longest_at longest_word known_radix directive_of further_directive plain_directive
example-82 = refl

-- @EXPR 2<=2;
example-83 : told (outcome 200 (start (64 ∷ 69 ∷ 88 ∷ 80 ∷ 82 ∷ 32 ∷ 50 ∷ 60 ∷ 61 ∷ 50 ∷ 59 ∷ []))) ≡ 0 ∷ 49 ∷ []
unfolding longest_at longest_word known_radix directive_of further_directive plain_directive
example-83 = refl

-- @EXPR 3>2>0;
example-84 : told (outcome 200 (start (64 ∷ 69 ∷ 88 ∷ 80 ∷ 82 ∷ 32 ∷ 51 ∷ 62 ∷ 50 ∷ 62 ∷ 48 ∷ 59 ∷ []))) ≡ 0 ∷ 49 ∷ []
unfolding longest_at longest_word known_radix directive_of further_directive plain_directive
example-84 = refl

-- @EXPR 1>=2;
example-85 : told (outcome 200 (start (64 ∷ 69 ∷ 88 ∷ 80 ∷ 82 ∷ 32 ∷ 49 ∷ 62 ∷ 61 ∷ 50 ∷ 59 ∷ []))) ≡ 0 ∷ 48 ∷ []
unfolding longest_at longest_word known_radix directive_of further_directive plain_directive
example-85 = refl

-- @EXPR 2-3;
example-86 : told (outcome 200 (start (64 ∷ 69 ∷ 88 ∷ 80 ∷ 82 ∷ 32 ∷ 50 ∷ 45 ∷ 51 ∷ 59 ∷ []))) ≡ 0 ∷ 52 ∷ 50 ∷ 57 ∷ 52 ∷ 57 ∷ 54 ∷ 55 ∷ 50 ∷ 57 ∷ 53 ∷ []
unfolding longest_at longest_word known_radix directive_of further_directive plain_directive
example-86 = refl

-- @EXPR ^hFF;
example-87 : told (outcome 200 (start (64 ∷ 69 ∷ 88 ∷ 80 ∷ 82 ∷ 32 ∷ 94 ∷ 104 ∷ 70 ∷ 70 ∷ 59 ∷ []))) ≡ 0 ∷ 50 ∷ 53 ∷ 53 ∷ []
unfolding longest_at longest_word known_radix directive_of further_directive plain_directive
example-87 = refl

-- @EXPR - - 5;
example-88 : told (outcome 200 (start (64 ∷ 69 ∷ 88 ∷ 80 ∷ 82 ∷ 32 ∷ 45 ∷ 32 ∷ 45 ∷ 32 ∷ 53 ∷ 59 ∷ []))) ≡ 0 ∷ 53 ∷ []
unfolding longest_at longest_word known_radix directive_of further_directive plain_directive
example-88 = refl

-- @EXPR 8-4-2;
example-89 : told (outcome 200 (start (64 ∷ 69 ∷ 88 ∷ 80 ∷ 82 ∷ 32 ∷ 56 ∷ 45 ∷ 52 ∷ 45 ∷ 50 ∷ 59 ∷ []))) ≡ 0 ∷ 50 ∷ []
unfolding longest_at longest_word known_radix directive_of further_directive plain_directive
example-89 = refl

-- @RADIX 16;@EXPR 0AB;
example-90 : told (outcome 200 (start (64 ∷ 82 ∷ 65 ∷ 68 ∷ 73 ∷ 88 ∷ 32 ∷ 49 ∷ 54 ∷ 59 ∷ 64 ∷ 69 ∷ 88 ∷ 80 ∷ 82 ∷ 32 ∷ 48 ∷ 65 ∷ 66 ∷ 59 ∷ []))) ≡ 0 ∷ 64 ∷ 82 ∷ 65 ∷ 68 ∷ 73 ∷ 88 ∷ 32 ∷ 49 ∷ 54 ∷ 59 ∷ 65 ∷ 66 ∷ []
unfolding longest_at longest_word known_radix directive_of further_directive plain_directive
example-90 = refl

-- @RADIX 2;@EXPR 101;
example-91 : told (outcome 200 (start (64 ∷ 82 ∷ 65 ∷ 68 ∷ 73 ∷ 88 ∷ 32 ∷ 50 ∷ 59 ∷ 64 ∷ 69 ∷ 88 ∷ 80 ∷ 82 ∷ 32 ∷ 49 ∷ 48 ∷ 49 ∷ 59 ∷ []))) ≡ 0 ∷ 64 ∷ 82 ∷ 65 ∷ 68 ∷ 73 ∷ 88 ∷ 32 ∷ 50 ∷ 59 ∷ 49 ∷ 48 ∷ 49 ∷ []
unfolding longest_at longest_word known_radix directive_of further_directive plain_directive
example-91 = refl

-- @RADIX 16;@RADIX 0A;@EXPR 9;
example-92 : told (outcome 200 (start (64 ∷ 82 ∷ 65 ∷ 68 ∷ 73 ∷ 88 ∷ 32 ∷ 49 ∷ 54 ∷ 59 ∷ 64 ∷ 82 ∷ 65 ∷ 68 ∷ 73 ∷ 88 ∷ 32 ∷ 48 ∷ 65 ∷ 59 ∷ 64 ∷ 69 ∷ 88 ∷ 80 ∷ 82 ∷ 32 ∷ 57 ∷ 59 ∷ []))) ≡ 0 ∷ 64 ∷ 82 ∷ 65 ∷ 68 ∷ 73 ∷ 88 ∷ 32 ∷ 49 ∷ 54 ∷ 59 ∷ 64 ∷ 82 ∷ 65 ∷ 68 ∷ 73 ∷ 88 ∷ 32 ∷ 48 ∷ 65 ∷ 59 ∷ 57 ∷ []
unfolding longest_at longest_word known_radix directive_of further_directive plain_directive
example-92 = refl

-- @RADIX "c" 8 ;
example-93 : told (outcome 200 (start (64 ∷ 82 ∷ 65 ∷ 68 ∷ 73 ∷ 88 ∷ 32 ∷ 34 ∷ 99 ∷ 34 ∷ 32 ∷ 56 ∷ 32 ∷ 59 ∷ []))) ≡ 0 ∷ 64 ∷ 82 ∷ 65 ∷ 68 ∷ 73 ∷ 88 ∷ 32 ∷ 32 ∷ 32 ∷ 56 ∷ 32 ∷ 59 ∷ []
unfolding longest_at longest_word known_radix directive_of further_directive plain_directive
example-93 = refl

-- @radix 16;1f
example-94 : told (outcome 200 (start (64 ∷ 114 ∷ 97 ∷ 100 ∷ 105 ∷ 120 ∷ 32 ∷ 49 ∷ 54 ∷ 59 ∷ 49 ∷ 102 ∷ []))) ≡ 0 ∷ 64 ∷ 114 ∷ 97 ∷ 100 ∷ 105 ∷ 120 ∷ 32 ∷ 49 ∷ 54 ∷ 59 ∷ 49 ∷ 102 ∷ []
unfolding longest_at longest_word known_radix directive_of further_directive plain_directive
example-94 = refl

-- m MACRO {@RADIX 8;};m@EXPR 8+0;
example-95 : told (outcome 200 (start (109 ∷ 32 ∷ 77 ∷ 65 ∷ 67 ∷ 82 ∷ 79 ∷ 32 ∷ 123 ∷ 64 ∷ 82 ∷ 65 ∷ 68 ∷ 73 ∷ 88 ∷ 32 ∷ 56 ∷ 59 ∷ 125 ∷ 59 ∷ 109 ∷ 64 ∷ 69 ∷ 88 ∷ 80 ∷ 82 ∷ 32 ∷ 56 ∷ 43 ∷ 48 ∷ 59 ∷ []))) ≡ 3 ∷ 1 ∷ 10 ∷ []
unfolding longest_at longest_word known_radix directive_of further_directive plain_directive
example-95 = refl

-- @RADIX 3;
example-96 : told (outcome 200 (start (64 ∷ 82 ∷ 65 ∷ 68 ∷ 73 ∷ 88 ∷ 32 ∷ 51 ∷ 59 ∷ []))) ≡ 3 ∷ 1 ∷ 1 ∷ []
unfolding longest_at longest_word known_radix directive_of further_directive plain_directive
example-96 = refl

-- @RADIX 8
example-97 : told (outcome 200 (start (64 ∷ 82 ∷ 65 ∷ 68 ∷ 73 ∷ 88 ∷ 32 ∷ 56 ∷ []))) ≡ 3 ∷ 1 ∷ 1 ∷ []
unfolding longest_at longest_word known_radix directive_of further_directive plain_directive
example-97 = refl

-- @RADIX ;
example-98 : told (outcome 200 (start (64 ∷ 82 ∷ 65 ∷ 68 ∷ 73 ∷ 88 ∷ 32 ∷ 59 ∷ []))) ≡ 3 ∷ 1 ∷ 1 ∷ []
unfolding longest_at longest_word known_radix directive_of further_directive plain_directive
example-98 = refl

-- @RADIX16;
example-99 : told (outcome 200 (start (64 ∷ 82 ∷ 65 ∷ 68 ∷ 73 ∷ 88 ∷ 49 ∷ 54 ∷ 59 ∷ []))) ≡ 3 ∷ 1 ∷ 1 ∷ []
unfolding longest_at longest_word known_radix directive_of further_directive plain_directive
example-99 = refl

-- @RADIX 1A;
example-100 : told (outcome 200 (start (64 ∷ 82 ∷ 65 ∷ 68 ∷ 73 ∷ 88 ∷ 32 ∷ 49 ∷ 65 ∷ 59 ∷ []))) ≡ 3 ∷ 1 ∷ 1 ∷ []
unfolding longest_at longest_word known_radix directive_of further_directive plain_directive
example-100 = refl

-- @EXPR 1
example-101 : told (outcome 200 (start (64 ∷ 69 ∷ 88 ∷ 80 ∷ 82 ∷ 32 ∷ 49 ∷ []))) ≡ 3 ∷ 1 ∷ 1 ∷ []
unfolding longest_at longest_word known_radix directive_of further_directive plain_directive
example-101 = refl

-- @EXPR ;
example-102 : told (outcome 200 (start (64 ∷ 69 ∷ 88 ∷ 80 ∷ 82 ∷ 32 ∷ 59 ∷ []))) ≡ 3 ∷ 1 ∷ 1 ∷ []
unfolding longest_at longest_word known_radix directive_of further_directive plain_directive
example-102 = refl

-- @EXPR n;
example-103 : told (outcome 200 (start (64 ∷ 69 ∷ 88 ∷ 80 ∷ 82 ∷ 32 ∷ 110 ∷ 59 ∷ []))) ≡ 3 ∷ 1 ∷ 1 ∷ []
unfolding longest_at longest_word known_radix directive_of further_directive plain_directive
example-103 = refl

-- @EXPR 1/0;
example-104 : told (outcome 200 (start (64 ∷ 69 ∷ 88 ∷ 80 ∷ 82 ∷ 32 ∷ 49 ∷ 47 ∷ 48 ∷ 59 ∷ []))) ≡ 3 ∷ 1 ∷ 1 ∷ []
unfolding longest_at longest_word known_radix directive_of further_directive plain_directive
example-104 = refl

-- @EXPR 1%0;
example-105 : told (outcome 200 (start (64 ∷ 69 ∷ 88 ∷ 80 ∷ 82 ∷ 32 ∷ 49 ∷ 37 ∷ 48 ∷ 59 ∷ []))) ≡ 3 ∷ 1 ∷ 1 ∷ []
unfolding longest_at longest_word known_radix directive_of further_directive plain_directive
example-105 = refl

-- @EXPR 1->2;
example-106 : told (outcome 200 (start (64 ∷ 69 ∷ 88 ∷ 80 ∷ 82 ∷ 32 ∷ 49 ∷ 45 ∷ 62 ∷ 50 ∷ 59 ∷ []))) ≡ 3 ∷ 1 ∷ 1 ∷ []
unfolding longest_at longest_word known_radix directive_of further_directive plain_directive
example-106 = refl

-- @EXPR 1..2;
example-107 : told (outcome 200 (start (64 ∷ 69 ∷ 88 ∷ 80 ∷ 82 ∷ 32 ∷ 49 ∷ 46 ∷ 46 ∷ 50 ∷ 59 ∷ []))) ≡ 3 ∷ 1 ∷ 1 ∷ []
unfolding longest_at longest_word known_radix directive_of further_directive plain_directive
example-107 = refl

-- @EXPR a.Q;
example-108 : told (outcome 200 (start (64 ∷ 69 ∷ 88 ∷ 80 ∷ 82 ∷ 32 ∷ 97 ∷ 46 ∷ 81 ∷ 59 ∷ []))) ≡ 3 ∷ 1 ∷ 1 ∷ []
unfolding longest_at longest_word known_radix directive_of further_directive plain_directive
example-108 = refl

-- @EXPR .X.;
example-109 : told (outcome 200 (start (64 ∷ 69 ∷ 88 ∷ 80 ∷ 82 ∷ 32 ∷ 46 ∷ 88 ∷ 46 ∷ 59 ∷ []))) ≡ 3 ∷ 1 ∷ 1 ∷ []
unfolding longest_at longest_word known_radix directive_of further_directive plain_directive
example-109 = refl

-- @EXPR 4294967296;
example-110 : told (outcome 200 (start (64 ∷ 69 ∷ 88 ∷ 80 ∷ 82 ∷ 32 ∷ 52 ∷ 50 ∷ 57 ∷ 52 ∷ 57 ∷ 54 ∷ 55 ∷ 50 ∷ 57 ∷ 54 ∷ 59 ∷ []))) ≡ 3 ∷ 1 ∷ 1 ∷ []
unfolding longest_at longest_word known_radix directive_of further_directive plain_directive
example-110 = refl

-- @EXPR (1;
example-111 : told (outcome 200 (start (64 ∷ 69 ∷ 88 ∷ 80 ∷ 82 ∷ 32 ∷ 40 ∷ 49 ∷ 59 ∷ []))) ≡ 3 ∷ 1 ∷ 1 ∷ []
unfolding longest_at longest_word known_radix directive_of further_directive plain_directive
example-111 = refl

-- @CONST 1=1;
example-112 : told (outcome 200 (start (64 ∷ 67 ∷ 79 ∷ 78 ∷ 83 ∷ 84 ∷ 32 ∷ 49 ∷ 61 ∷ 49 ∷ 59 ∷ []))) ≡ 3 ∷ 1 ∷ 1 ∷ []
unfolding longest_at longest_word known_radix directive_of further_directive plain_directive
example-112 = refl

-- @CONST n 1;
example-113 : told (outcome 200 (start (64 ∷ 67 ∷ 79 ∷ 78 ∷ 83 ∷ 84 ∷ 32 ∷ 110 ∷ 32 ∷ 49 ∷ 59 ∷ []))) ≡ 3 ∷ 1 ∷ 1 ∷ []
unfolding longest_at longest_word known_radix directive_of further_directive plain_directive
example-113 = refl

-- @CONST n=1
example-114 : told (outcome 200 (start (64 ∷ 67 ∷ 79 ∷ 78 ∷ 83 ∷ 84 ∷ 32 ∷ 110 ∷ 61 ∷ 49 ∷ []))) ≡ 3 ∷ 1 ∷ 1 ∷ []
unfolding longest_at longest_word known_radix directive_of further_directive plain_directive
example-114 = refl
