-- Laws of the definitions and of the functions, by module of src/ (Lists and Sums: list.rt, Rows, Filling and FillingLists: row.rt, Reports: answer.rt).
pub mod Lists
pub mod Sums
pub mod Rows
pub mod Filling
pub mod FillingLists
pub mod Reports
