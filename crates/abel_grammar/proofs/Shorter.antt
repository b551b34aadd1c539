-- Each entry of a loop takes a token.
use Rattle.std.proofs.Common.{◌≡◌, ℕ, ◌<◌, false, List, length, Ok}
use Rattle.abel_grammar.proofs.Common.{Place, Token, Word, Item, Span, Tree, SetMember, Statement, Branch, Declaration, RowTree, StateTree, SectionTree, products, sums, relations, read_text, read_link, read_level, read_operand, read_expr, read_member, read_stmt, read_item, read_num, read_option, read_decl, read_arm, read_choice, read_trans, read_state, read_row, read_vector_row, section_group_of, read_dont_care_section, read_section_group, proper_starts}
use Rattle.abel_grammar.proofs.Sets.{shorter_by, turned}
use Rattle.abel_grammar.proofs.TableLaws.{table_row_laws, vector_row_laws}
use Rattle.abel_grammar.proofs.ExpressionLaws.{product_laws, sum_laws, relation_laws, member_laws, operand_laws, expr_laws, expr_begun, expr_alone, text_laws}
use Rattle.abel_grammar.proofs.StatementLaws.{stmt_laws}
use Rattle.abel_grammar.proofs.DeclarationLaws.{item_laws, num_laws, option_laws, decl_laws}
use Rattle.abel_grammar.proofs.DiagramLaws.{choice_laws, arm_ended_laws}
use Rattle.abel_grammar.proofs.ModuleLaws.{trans_laws, state_laws, dont_care_section_laws, behind_group, groups_laws}

pub product_link_shorter : (n : ℕ) (ts : List Token) (x : (Token × Tree) × List Token) → read_link products (read_operand n) ts ≡ Ok x → length x.1 < length ts
product_link_shorter n = shorter_by _ _ (product_laws _ _ _ _ (operand_laws n))

pub sum_link_shorter : (n : ℕ) (ts : List Token) (x : (Token × Tree) × List Token) → read_link sums (read_level products (read_operand n)) ts ≡ Ok x → length x.1 < length ts
sum_link_shorter n = shorter_by _ _ (sum_laws _ _ _ _ (operand_laws n))

pub relation_link_shorter : (n : ℕ) (ts : List Token) (x : (Token × Tree) × List Token) → read_link relations (read_level sums (read_level products (read_operand n))) ts ≡ Ok x → length x.1 < length ts
relation_link_shorter n = shorter_by _ _ (relation_laws _ _ _ _ (operand_laws n))

pub member_shorter : (n : ℕ) (ts : List Token) (x : SetMember × List Token) → read_member (read_expr n) ts ≡ Ok x → length x.1 < length ts
member_shorter n = shorter_by _ _ (member_laws _ _ _ _ (expr_laws n) (expr_begun n) (expr_alone n))

pub text_shorter : (ts : List Token) (x : Word × List Token) → read_text ts ≡ Ok x → length x.1 < length ts
text_shorter = shorter_by _ _ text_laws

pub stmt_shorter : (n : ℕ) (ts : List Token) (x : Statement × List Token) → read_stmt n ts ≡ Ok x → length x.1 < length ts
stmt_shorter n = shorter_by _ _ (stmt_laws n)

pub item_shorter : (ts : List Token) (x : Item × List Token) → read_item ts ≡ Ok x → length x.1 < length ts
item_shorter = shorter_by _ _ item_laws

pub num_shorter : (ts : List Token) (x : Span × List Token) → read_num ts ≡ Ok x → length x.1 < length ts
num_shorter = shorter_by _ _ num_laws

pub decl_shorter : (n : ℕ) (ts : List Token) (x : Declaration × List Token) → read_decl n ts ≡ Ok x → length x.1 < length ts
decl_shorter n = shorter_by _ _ (decl_laws n)

pub choice_shorter : (n : ℕ) (ts : List Token) (x : (Tree × (Place × Branch)) × List Token) → read_choice (read_expr n) (read_arm n) ts ≡ Ok x → length x.1 < length ts
choice_shorter n = shorter_by _ _ (choice_laws _ _ _ _ (expr_laws n) _ _ _ _ (arm_ended_laws n))

pub trans_shorter : (n : ℕ) (ts : List Token) (x : Branch × List Token) → read_trans n ts ≡ Ok x → length x.1 < length ts
trans_shorter n = shorter_by _ _ (trans_laws n)

pub state_shorter : (n : ℕ) (ts : List Token) (x : StateTree × List Token) → read_state n ts ≡ Ok x → length x.1 < length ts
state_shorter n = shorter_by _ _ (state_laws n)

pub row_shorter : (n : ℕ) (ts : List Token) (x : RowTree × List Token) → read_row n ts ≡ Ok x → length x.1 < length ts
row_shorter n = shorter_by _ _ (table_row_laws n)

pub vector_row_shorter : (n : ℕ) (ts : List Token) (x : RowTree × List Token) → read_vector_row n ts ≡ Ok x → length x.1 < length ts
vector_row_shorter n = shorter_by _ _ (vector_row_laws n)

pub option_shorter : (ts : List Token) (x : List Word × List Token) → read_option ts ≡ Ok x → length x.1 < length ts
option_shorter = shorter_by _ _ option_laws

pub dont_care_section_shorter : (ts : List Token) (x : SectionTree × List Token) → read_dont_care_section ts ≡ Ok x → length x.1 < length ts
dont_care_section_shorter = shorter_by _ _ dont_care_section_laws

pub section_group_shorter : (n : ℕ) (ts : List Token) (x : List SectionTree × List Token) → read_section_group n ts ≡ Ok x → length x.1 < length ts
section_group_shorter n = shorter_by _ _ (turned section_group_of proper_starts behind_group false (groups_laws n))
