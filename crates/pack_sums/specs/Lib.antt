-- Adding reports word by word (02, Req 14).
pub mod Sum
