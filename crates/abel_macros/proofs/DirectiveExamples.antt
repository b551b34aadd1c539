-- The other directives, and what begins no form: texts, and what they expand to by the definition, or how they are refused, computed. The
-- first number is 0 before the bytes of an expanded text, 3 before the line and column of a BadDirective
-- and 4 before those of an Unsupported.
use Rattle.std.proofs.Common.{◌≡◌, [], ◌∷◌, refl}
use Rattle.abel_macros.proofs.Common.{longest_at, longest_word, known_radix, directive_of, further_directive, plain_directive, start}
use Rattle.abel_macros.proofs.Told.{outcome, told}

-- @IF 1 {a}b
example-115 : told (outcome 200 (start (64 ∷ 73 ∷ 70 ∷ 32 ∷ 49 ∷ 32 ∷ 123 ∷ 97 ∷ 125 ∷ 98 ∷ []))) ≡ 0 ∷ 97 ∷ 98 ∷ []
unfolding longest_at longest_word known_radix directive_of further_directive plain_directive
example-115 = refl

-- @IF 0 {a}b
example-116 : told (outcome 200 (start (64 ∷ 73 ∷ 70 ∷ 32 ∷ 48 ∷ 32 ∷ 123 ∷ 97 ∷ 125 ∷ 98 ∷ []))) ≡ 0 ∷ 98 ∷ []
unfolding longest_at longest_word known_radix directive_of further_directive plain_directive
example-116 = refl

-- @IF(1){a}
example-117 : told (outcome 200 (start (64 ∷ 73 ∷ 70 ∷ 40 ∷ 49 ∷ 41 ∷ 123 ∷ 97 ∷ 125 ∷ []))) ≡ 0 ∷ 97 ∷ []
unfolding longest_at longest_word known_radix directive_of further_directive plain_directive
example-117 = refl

-- @IF 1==2 {a}
example-118 : told (outcome 200 (start (64 ∷ 73 ∷ 70 ∷ 32 ∷ 49 ∷ 61 ∷ 61 ∷ 50 ∷ 32 ∷ 123 ∷ 97 ∷ 125 ∷ []))) ≡ 0 ∷ []
unfolding longest_at longest_word known_radix directive_of further_directive plain_directive
example-118 = refl

-- @if !0 {a}
example-119 : told (outcome 200 (start (64 ∷ 105 ∷ 102 ∷ 32 ∷ 33 ∷ 48 ∷ 32 ∷ 123 ∷ 97 ∷ 125 ∷ []))) ≡ 0 ∷ 97 ∷ []
unfolding longest_at longest_word known_radix directive_of further_directive plain_directive
example-119 = refl

-- @IF 1 a
example-120 : told (outcome 200 (start (64 ∷ 73 ∷ 70 ∷ 32 ∷ 49 ∷ 32 ∷ 97 ∷ []))) ≡ 3 ∷ 1 ∷ 1 ∷ []
unfolding longest_at longest_word known_radix directive_of further_directive plain_directive
example-120 = refl

-- @IF {a}
example-121 : told (outcome 200 (start (64 ∷ 73 ∷ 70 ∷ 32 ∷ 123 ∷ 97 ∷ 125 ∷ []))) ≡ 3 ∷ 1 ∷ 1 ∷ []
unfolding longest_at longest_word known_radix directive_of further_directive plain_directive
example-121 = refl

-- @IF1 {a}
example-122 : told (outcome 200 (start (64 ∷ 73 ∷ 70 ∷ 49 ∷ 32 ∷ 123 ∷ 97 ∷ 125 ∷ []))) ≡ 3 ∷ 1 ∷ 1 ∷ []
unfolding longest_at longest_word known_radix directive_of further_directive plain_directive
example-122 = refl

-- @IFDEF n {y}
example-123 : told (outcome 200 (start (64 ∷ 73 ∷ 70 ∷ 68 ∷ 69 ∷ 70 ∷ 32 ∷ 110 ∷ 32 ∷ 123 ∷ 121 ∷ 125 ∷ []))) ≡ 0 ∷ []
unfolding longest_at longest_word known_radix directive_of further_directive plain_directive
example-123 = refl

-- @IFNDEF n {y}
example-124 : told (outcome 200 (start (64 ∷ 73 ∷ 70 ∷ 78 ∷ 68 ∷ 69 ∷ 70 ∷ 32 ∷ 110 ∷ 32 ∷ 123 ∷ 121 ∷ 125 ∷ []))) ≡ 0 ∷ 121 ∷ []
unfolding longest_at longest_word known_radix directive_of further_directive plain_directive
example-124 = refl

-- n MACRO {};@IFDEF n {y}
example-125 : told (outcome 200 (start (110 ∷ 32 ∷ 77 ∷ 65 ∷ 67 ∷ 82 ∷ 79 ∷ 32 ∷ 123 ∷ 125 ∷ 59 ∷ 64 ∷ 73 ∷ 70 ∷ 68 ∷ 69 ∷ 70 ∷ 32 ∷ 110 ∷ 32 ∷ 123 ∷ 121 ∷ 125 ∷ []))) ≡ 0 ∷ 121 ∷ []
unfolding longest_at longest_word known_radix directive_of further_directive plain_directive
example-125 = refl

-- @CONST n=1;@IFDEF n {y}
example-126 : told (outcome 200 (start (64 ∷ 67 ∷ 79 ∷ 78 ∷ 83 ∷ 84 ∷ 32 ∷ 110 ∷ 61 ∷ 49 ∷ 59 ∷ 64 ∷ 73 ∷ 70 ∷ 68 ∷ 69 ∷ 70 ∷ 32 ∷ 110 ∷ 32 ∷ 123 ∷ 121 ∷ 125 ∷ []))) ≡ 0 ∷ 121 ∷ []
unfolding longest_at longest_word known_radix directive_of further_directive plain_directive
example-126 = refl

-- @CONST n=1;@IFNDEF n {y}
example-127 : told (outcome 200 (start (64 ∷ 67 ∷ 79 ∷ 78 ∷ 83 ∷ 84 ∷ 32 ∷ 110 ∷ 61 ∷ 49 ∷ 59 ∷ 64 ∷ 73 ∷ 70 ∷ 78 ∷ 68 ∷ 69 ∷ 70 ∷ 32 ∷ 110 ∷ 32 ∷ 123 ∷ 121 ∷ 125 ∷ []))) ≡ 0 ∷ []
unfolding longest_at longest_word known_radix directive_of further_directive plain_directive
example-127 = refl

-- @IFDEF 1 {y}
example-128 : told (outcome 200 (start (64 ∷ 73 ∷ 70 ∷ 68 ∷ 69 ∷ 70 ∷ 32 ∷ 49 ∷ 32 ∷ 123 ∷ 121 ∷ 125 ∷ []))) ≡ 3 ∷ 1 ∷ 1 ∷ []
unfolding longest_at longest_word known_radix directive_of further_directive plain_directive
example-128 = refl

-- @IRP i (0,1) {b?i,}
example-129 : told (outcome 200 (start (64 ∷ 73 ∷ 82 ∷ 80 ∷ 32 ∷ 105 ∷ 32 ∷ 40 ∷ 48 ∷ 44 ∷ 49 ∷ 41 ∷ 32 ∷ 123 ∷ 98 ∷ 63 ∷ 105 ∷ 44 ∷ 125 ∷ []))) ≡ 0 ∷ 98 ∷ 48 ∷ 44 ∷ 98 ∷ 49 ∷ 44 ∷ []
unfolding longest_at longest_word known_radix directive_of further_directive plain_directive
example-129 = refl

-- @IRP i () {b?i}
example-130 : told (outcome 200 (start (64 ∷ 73 ∷ 82 ∷ 80 ∷ 32 ∷ 105 ∷ 32 ∷ 40 ∷ 41 ∷ 32 ∷ 123 ∷ 98 ∷ 63 ∷ 105 ∷ 125 ∷ []))) ≡ 0 ∷ 98 ∷ []
unfolding longest_at longest_word known_radix directive_of further_directive plain_directive
example-130 = refl

-- @IRP i ( a , b ) {?i}
example-131 : told (outcome 200 (start (64 ∷ 73 ∷ 82 ∷ 80 ∷ 32 ∷ 105 ∷ 32 ∷ 40 ∷ 32 ∷ 97 ∷ 32 ∷ 44 ∷ 32 ∷ 98 ∷ 32 ∷ 41 ∷ 32 ∷ 123 ∷ 63 ∷ 105 ∷ 125 ∷ []))) ≡ 0 ∷ 97 ∷ 98 ∷ []
unfolding longest_at longest_word known_radix directive_of further_directive plain_directive
example-131 = refl

-- @IRP i {x}
example-132 : told (outcome 200 (start (64 ∷ 73 ∷ 82 ∷ 80 ∷ 32 ∷ 105 ∷ 32 ∷ 123 ∷ 120 ∷ 125 ∷ []))) ≡ 3 ∷ 1 ∷ 1 ∷ []
unfolding longest_at longest_word known_radix directive_of further_directive plain_directive
example-132 = refl

-- @IRP (0) {x}
example-133 : told (outcome 200 (start (64 ∷ 73 ∷ 82 ∷ 80 ∷ 32 ∷ 40 ∷ 48 ∷ 41 ∷ 32 ∷ 123 ∷ 120 ∷ 125 ∷ []))) ≡ 3 ∷ 1 ∷ 1 ∷ []
unfolding longest_at longest_word known_radix directive_of further_directive plain_directive
example-133 = refl

-- @IRP i (a,b) {@IRP j (c,d) {?i?j }}
example-134 : told (outcome 200 (start (64 ∷ 73 ∷ 82 ∷ 80 ∷ 32 ∷ 105 ∷ 32 ∷ 40 ∷ 97 ∷ 44 ∷ 98 ∷ 41 ∷ 32 ∷ 123 ∷ 64 ∷ 73 ∷ 82 ∷ 80 ∷ 32 ∷ 106 ∷ 32 ∷ 40 ∷ 99 ∷ 44 ∷ 100 ∷ 41 ∷ 32 ∷ 123 ∷ 63 ∷ 105 ∷ 63 ∷ 106 ∷ 32 ∷ 125 ∷ 125 ∷ []))) ≡ 0 ∷ 97 ∷ 99 ∷ 32 ∷ 97 ∷ 100 ∷ 32 ∷ 98 ∷ 99 ∷ 32 ∷ 98 ∷ 100 ∷ 32 ∷ []
unfolding longest_at longest_word known_radix directive_of further_directive plain_directive
example-134 = refl

-- @REPEAT 3 {!}
example-135 : told (outcome 200 (start (64 ∷ 82 ∷ 69 ∷ 80 ∷ 69 ∷ 65 ∷ 84 ∷ 32 ∷ 51 ∷ 32 ∷ 123 ∷ 33 ∷ 125 ∷ []))) ≡ 0 ∷ 33 ∷ 33 ∷ 33 ∷ []
unfolding longest_at longest_word known_radix directive_of further_directive plain_directive
example-135 = refl

-- @REPEAT 0 {a}
example-136 : told (outcome 200 (start (64 ∷ 82 ∷ 69 ∷ 80 ∷ 69 ∷ 65 ∷ 84 ∷ 32 ∷ 48 ∷ 32 ∷ 123 ∷ 97 ∷ 125 ∷ []))) ≡ 0 ∷ []
unfolding longest_at longest_word known_radix directive_of further_directive plain_directive
example-136 = refl

-- @REPEAT 2 {a\n}
example-137 : told (outcome 200 (start (64 ∷ 82 ∷ 69 ∷ 80 ∷ 69 ∷ 65 ∷ 84 ∷ 32 ∷ 50 ∷ 32 ∷ 123 ∷ 97 ∷ 10 ∷ 125 ∷ []))) ≡ 0 ∷ 97 ∷ 10 ∷ 97 ∷ 10 ∷ []
unfolding longest_at longest_word known_radix directive_of further_directive plain_directive
example-137 = refl

-- @REPEAT {a}
example-138 : told (outcome 200 (start (64 ∷ 82 ∷ 69 ∷ 80 ∷ 69 ∷ 65 ∷ 84 ∷ 32 ∷ 123 ∷ 97 ∷ 125 ∷ []))) ≡ 3 ∷ 1 ∷ 1 ∷ []
unfolding longest_at longest_word known_radix directive_of further_directive plain_directive
example-138 = refl

-- @DCSET @onset
example-139 : told (outcome 200 (start (64 ∷ 68 ∷ 67 ∷ 83 ∷ 69 ∷ 84 ∷ 32 ∷ 64 ∷ 111 ∷ 110 ∷ 115 ∷ 101 ∷ 116 ∷ []))) ≡ 0 ∷ 64 ∷ 68 ∷ 67 ∷ 83 ∷ 69 ∷ 84 ∷ 32 ∷ 64 ∷ 111 ∷ 110 ∷ 115 ∷ 101 ∷ 116 ∷ []
unfolding longest_at longest_word known_radix directive_of further_directive plain_directive
example-139 = refl

-- @DCSETX
example-140 : told (outcome 200 (start (64 ∷ 68 ∷ 67 ∷ 83 ∷ 69 ∷ 84 ∷ 88 ∷ []))) ≡ 3 ∷ 1 ∷ 1 ∷ []
unfolding longest_at longest_word known_radix directive_of further_directive plain_directive
example-140 = refl

-- @
example-141 : told (outcome 200 (start (64 ∷ []))) ≡ 3 ∷ 1 ∷ 1 ∷ []
unfolding longest_at longest_word known_radix directive_of further_directive plain_directive
example-141 = refl

-- a @ b
example-142 : told (outcome 200 (start (97 ∷ 32 ∷ 64 ∷ 32 ∷ 98 ∷ []))) ≡ 3 ∷ 1 ∷ 3 ∷ []
unfolding longest_at longest_word known_radix directive_of further_directive plain_directive
example-142 = refl

-- @FOO
example-143 : told (outcome 200 (start (64 ∷ 70 ∷ 79 ∷ 79 ∷ []))) ≡ 3 ∷ 1 ∷ 1 ∷ []
unfolding longest_at longest_word known_radix directive_of further_directive plain_directive
example-143 = refl

-- @INCLUDE
example-144 : told (outcome 200 (start (64 ∷ 73 ∷ 78 ∷ 67 ∷ 76 ∷ 85 ∷ 68 ∷ 69 ∷ []))) ≡ 4 ∷ 1 ∷ 1 ∷ []
unfolding longest_at longest_word known_radix directive_of further_directive plain_directive
example-144 = refl

-- \n @page
example-145 : told (outcome 200 (start (10 ∷ 32 ∷ 64 ∷ 112 ∷ 97 ∷ 103 ∷ 101 ∷ []))) ≡ 4 ∷ 2 ∷ 2 ∷ []
unfolding longest_at longest_word known_radix directive_of further_directive plain_directive
example-145 = refl

-- @ifb {a}
example-146 : told (outcome 200 (start (64 ∷ 105 ∷ 102 ∷ 98 ∷ 32 ∷ 123 ∷ 97 ∷ 125 ∷ []))) ≡ 4 ∷ 1 ∷ 1 ∷ []
unfolding longest_at longest_word known_radix directive_of further_directive plain_directive
example-146 = refl

-- @Alternate
example-147 : told (outcome 200 (start (64 ∷ 65 ∷ 108 ∷ 116 ∷ 101 ∷ 114 ∷ 110 ∷ 97 ∷ 116 ∷ 101 ∷ []))) ≡ 4 ∷ 1 ∷ 1 ∷ []
unfolding longest_at longest_word known_radix directive_of further_directive plain_directive
example-147 = refl

-- a ? b ^ . c
example-148 : told (outcome 200 (start (97 ∷ 32 ∷ 63 ∷ 32 ∷ 98 ∷ 32 ∷ 94 ∷ 32 ∷ 46 ∷ 32 ∷ 99 ∷ []))) ≡ 0 ∷ 97 ∷ 32 ∷ 63 ∷ 32 ∷ 98 ∷ 32 ∷ 94 ∷ 32 ∷ 46 ∷ 32 ∷ 99 ∷ []
unfolding longest_at longest_word known_radix directive_of further_directive plain_directive
example-148 = refl

-- \x1a
example-149 : told (outcome 200 (start (26 ∷ []))) ≡ 0 ∷ 26 ∷ []
unfolding longest_at longest_word known_radix directive_of further_directive plain_directive
example-149 = refl

-- a.X.b .SV1.
example-150 : told (outcome 200 (start (97 ∷ 46 ∷ 88 ∷ 46 ∷ 98 ∷ 32 ∷ 46 ∷ 83 ∷ 86 ∷ 49 ∷ 46 ∷ []))) ≡ 0 ∷ 97 ∷ 46 ∷ 88 ∷ 46 ∷ 98 ∷ 32 ∷ 46 ∷ 83 ∷ 86 ∷ 49 ∷ 46 ∷ []
unfolding longest_at longest_word known_radix directive_of further_directive plain_directive
example-150 = refl

-- {}
example-151 : told (outcome 200 (start (123 ∷ 125 ∷ []))) ≡ 0 ∷ 123 ∷ 125 ∷ []
unfolding longest_at longest_word known_radix directive_of further_directive plain_directive
example-151 = refl

-- a := b -> c;
example-152 : told (outcome 200 (start (97 ∷ 32 ∷ 58 ∷ 61 ∷ 32 ∷ 98 ∷ 32 ∷ 45 ∷ 62 ∷ 32 ∷ 99 ∷ 59 ∷ []))) ≡ 0 ∷ 97 ∷ 32 ∷ 58 ∷ 61 ∷ 32 ∷ 98 ∷ 32 ∷ 45 ∷ 62 ∷ 32 ∷ 99 ∷ 59 ∷ []
unfolding longest_at longest_word known_radix directive_of further_directive plain_directive
example-152 = refl

-- 1+m
example-153 : told (outcome 200 (start (49 ∷ 43 ∷ 109 ∷ []))) ≡ 0 ∷ 49 ∷ 43 ∷ 109 ∷ []
unfolding longest_at longest_word known_radix directive_of further_directive plain_directive
example-153 = refl
