pub mod Seeds
pub mod Recipes
pub mod RecipeLaws
